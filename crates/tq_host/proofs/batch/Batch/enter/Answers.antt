use Rattle.std.proofs.Common.{◌≡◌, ◌++◌, Some, sym, ap, subst, ◌∙◌, rules}
use Rattle.tq_shape.specs.{Journal.entry, Agrees.{next_number, state_after_entry}}
use Rattle.tq_host.specs.Lines.{IsLine}
use Rattle.tq_host.proofs.batch.Batch.enter.Goals as goal

pub returns-in-Ok-clause-ok : goal.returns-in-Ok-clause-ok
returns-in-Ok-clause-ok g c =
    let old = c.args.self.now in
    let number = next_number old.standing in
    let reply = c.in_ok-plan.plan.reply in
    let e = entry c.args.ask reply in
    let text = g.P.Wire.entry_line c.args.ask reply in
    let legal : reply ≡ g.P.Answers.reply old.standing.part number c.args.ask = search rules in
    let part : c.part-2.result.now ≡ old.standing.part = search rules in
    let back = c.in_ok-entry.ensures.back number (legal ∙ ap (λ s. g.P.Answers.reply s number c.args.ask) (sym part)) in
    let read : g.P.Wire.reads old.standing.part text (Some e) =
    subst (λ s. g.P.Wire.reads s text (Some e)) part (subst (λ line. g.P.Wire.reads c.part-2.result.now line (Some e)) c.in_ok-entry.ensures.text back) in
    let standing : c.enter.new.self ≡ state_after_entry g.P.Answers.after old.standing number c.args.ask reply = search rules in
    let entries : c.self-2.inside.entries.items ≡ old.entries ++ text = search rules in
    let answers : c.self-2.inside.answers.items ≡ old.answers ++ g.P.Wire.told_line number reply = search rules in
    λ line asked. (
      e,
      record { asked = asked; room = c.requires.room; legal = legal; kept = (subst IsLine c.in_ok-entry.ensures.text c.in_ok-entry.ensures.whole, read) },
      λ i. record { standing = standing i; entries = entries i; answers = answers i },
    )
