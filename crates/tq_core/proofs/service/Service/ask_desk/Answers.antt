use Rattle.std.proofs.Common.{◌∙◌, ◌++◌, [], ◌∷◌, ℕ, List, ap, length, refl, subst, sym}
use Rattle.tq_shape.specs.{Journal.entry, declared.part.Part.TheVariants.Desk}
use Rattle.tq_desk.specs.DeskJournal.{DeskEntry}
use Rattle.tq_tables.specs.Journals.{JournalsView}
use Rattle.tq_core.specs.declared.answer.Step.TheVariants as steps
use Rattle.tq_core.{specs.Steps.refuse_entry, proofs.Standing.{desk-levels, desk_asked, not-refused}}
use Rattle.tq_core.proofs.service.Service.ask_desk.Goals as goal

pub ask_desk-requires-clause-judged : goal.ask_desk-requires-clause-judged
ask_desk-requires-clause-judged g c =
    let same = desk-levels c.self.inside.tabled.tables _ c.self.invariant ∙ ap (λ (w : JournalsView). w.levels) c.self.view_is in
    subst (λ (levels : ℕ). g.J.Judge.takes levels c.args.ask) (sym same) c.requires.judged

pub invariant_of-self : goal.invariant_of-self
invariant_of-self g c = rw c.make_room.ensures.items c.self.invariant

pub invariant_of-self-2 : goal.invariant_of-self-2
invariant_of-self-2 g c =
    let now = c.args.self.now in
    let count = c.len-entries.ensures ∙ c.self.inside.tabled.desk.ok.0 in
    let refusal_is = c.refusal.ensures ∙ (λ i. refuse_entry now Desk ((count ∙ ap (λ (w : JournalsView). length w.desk) c.self.view_is) i) (c.unfounded-unfounded.ensures i)) in
    let made = c.in_ok-replies.replies in
    let more = c.push_reserved.ensures.items ∙ ap (λ (entries : List DeskEntry). entries ++ entry c.args.ask made.entered ∷ []) c.make_room.ensures.items in
    (desk_asked c.self.inside.tabled.tables c.ask_desk.new.self _ now c.self.view_is c.self.invariant c.push_reserved.new.self.items c.args.ask
    (not-refused now (steps.Desk c.args.ask) c.refusal.result refusal_is c.in_default.is)
    c.in_ok-replies.ensures.asked _ refl made c.in_ok-replies.ensures.replies more).stands

pub returns-clause-after : goal.returns-clause-after
returns-clause-after g c =
    let now = c.args.self.now in
    let count = c.len-entries.ensures ∙ c.self.inside.tabled.desk.ok.0 in
    let refusal_is = c.refusal.ensures ∙ (λ i. refuse_entry now Desk ((count ∙ ap (λ (w : JournalsView). length w.desk) c.self.view_is) i) (c.unfounded-unfounded.ensures i)) in
    let made = c.in_ok-replies.replies in
    let more = c.push_reserved.ensures.items ∙ ap (λ (entries : List DeskEntry). entries ++ entry c.args.ask made.entered ∷ []) c.make_room.ensures.items in
    (desk_asked c.self.inside.tabled.tables c.ask_desk.new.self _ now c.self.view_is c.self.invariant c.push_reserved.new.self.items c.args.ask
    (not-refused now (steps.Desk c.args.ask) c.refusal.result refusal_is c.in_default.is)
    c.in_ok-replies.ensures.asked _ refl made c.in_ok-replies.ensures.replies more).after
