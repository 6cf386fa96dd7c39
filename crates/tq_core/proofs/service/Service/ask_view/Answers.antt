use Rattle.std.{proofs.Common.{None, ◌∙◌, ◌+◌, ◌++◌, [], ◌∷◌, List, ap, length, refl}, specs.Prelude.Ok}
use Rattle.tq_shape.specs.{Journal.entry, declared.part.Part.TheVariants.View}
use Rattle.tq_tables.specs.{Journals.{JournalsView, ViewEntry}, Reserved.unready}
use Rattle.tq_core.specs.declared.answer.Reply.TheVariants as replies
use Rattle.tq_core.specs.declared.answer.Step.TheVariants as steps
use Rattle.tq_core.{specs.Steps.refuse_entry, proofs.Standing.{not-refused, told_offers, view_asked}}
use Rattle.tq_core.proofs.service.Service.ask_view.Goals as goal

pub invariant_of-self : goal.invariant_of-self
invariant_of-self c = rw c.make_room.ensures.items c.self.invariant

pub invariant_of-self-2 : goal.invariant_of-self-2
invariant_of-self-2 c =
    let now = c.args.self.now in
    let count = c.len-entries.ensures ∙ c.self.inside.tabled.view.ok.0 in
    let refusal_is = c.refusal.ensures ∙ (λ i. refuse_entry now View ((count ∙ ap (λ (w : JournalsView). length w.view) c.self.view_is) i) None) in
    let made = c.in_ok-replies.replies in
    let more = c.push_reserved.ensures.items ∙ ap (λ (entries : List ViewEntry). entries ++ entry c.args.ask made.entered ∷ []) c.make_room.ensures.items in
    (view_asked c.self.inside.tabled.tables c.ask_view.new.self _ now c.self.view_is c.self.invariant c.push_reserved.new.self.items c.args.ask
    (not-refused now (steps.View c.args.ask) c.refusal.result refusal_is c.in_default.is)
    (λ journals reply legal stand. c.in_ok-replies.ensures.asked journals reply legal (ap unready stand)) _ refl made c.in_ok-replies.ensures.replies more).stands

pub returns-clause-after : goal.returns-clause-after
returns-clause-after c =
    let now = c.args.self.now in
    let count = c.len-entries.ensures ∙ c.self.inside.tabled.view.ok.0 in
    let refusal_is = c.refusal.ensures ∙ (λ i. refuse_entry now View ((count ∙ ap (λ (w : JournalsView). length w.view) c.self.view_is) i) None) in
    let made = c.in_ok-replies.replies in
    let more = c.push_reserved.ensures.items ∙ ap (λ (entries : List ViewEntry). entries ++ entry c.args.ask made.entered ∷ []) c.make_room.ensures.items in
    (view_asked c.self.inside.tabled.tables c.ask_view.new.self _ now c.self.view_is c.self.invariant c.push_reserved.new.self.items c.args.ask
    (not-refused now (steps.View c.args.ask) c.refusal.result refusal_is c.in_default.is)
    (λ journals reply legal stand. c.in_ok-replies.ensures.asked journals reply legal (ap unready stand)) _ refl made c.in_ok-replies.ensures.replies more).after

pub returns-clause-told : goal.returns-clause-told
returns-clause-told c =
    let now = c.args.self.now in
    let count = c.len-entries.ensures ∙ c.self.inside.tabled.view.ok.0 in
    let refusal_is = c.refusal.ensures ∙ (λ i. refuse_entry now View ((count ∙ ap (λ (w : JournalsView). length w.view) c.self.view_is) i) None) in
    let made = c.in_ok-replies.replies in
    let more = c.push_reserved.ensures.items ∙ ap (λ (entries : List ViewEntry). entries ++ entry c.args.ask made.entered ∷ []) c.make_room.ensures.items in
    (view_asked c.self.inside.tabled.tables c.ask_view.new.self _ now c.self.view_is c.self.invariant c.push_reserved.new.self.items c.args.ask
    (not-refused now (steps.View c.args.ask) c.refusal.result refusal_is c.in_default.is)
    (λ journals reply legal stand. c.in_ok-replies.ensures.asked journals reply legal (ap unready stand)) _ (ap (λ n. n + 1) count) made c.in_ok-replies.ensures.replies more).told

pub returns-clause-offered : goal.returns-clause-offered
returns-clause-offered c =
    told_offers replies.View c.args.self.now (steps.View c.args.ask) (Ok (record { number = c.len-entries.result + 1; reply = c.in_ok-replies.replies.told })) (returns-clause-told c)
