use Rattle.std.proofs.Common.{◌≡◌, ◌<◌, ◌+◌, Some, false, length, sym, ap, ◌∙◌, inr, arith, rules}
use Rattle.std.proofs.lemmas.Bool.{iff_false}
use Rattle.tq_shape.specs.Agrees.{next_number, state_after_entry}
use Rattle.tq_host.proofs.replaying.enter_line.Goals as goal

pub returns-clause-ok : goal.returns-clause-ok
returns-clause-ok g c =
    let before = c.args.part.now in
    let e = c.in-Some.entry in
    let read : g.P.Wire.reads before.part c.args.line.now (Some e) = search rules in
    let full : c.is_full-is_full.result ≡ false = search rules in
    let room : length before.journal < before.limit = omega (arith, c.is_full-is_full.ensures.within, iff_false c.is_full-is_full.ensures.full full) in
    let same : c.in_ok-plan.plan.reply ≡ e.reply = search rules in
    let gives : c.in_ok-plan.plan.reply ≡ g.P.Answers.reply before.part (next_number before) e.ask = search rules in
    let now : c.enter.new.self ≡ state_after_entry g.P.Answers.after before (next_number before) e.ask c.in_ok-plan.plan.reply = search rules in
    record {
      entry = e;
      read = read;
      room = room;
      legal = sym same ∙ gives;
      goes_on = now ∙ ap (λ r. state_after_entry g.P.Answers.after before (next_number before) e.ask r) same;
    }

pub returns-then-not-is_same_reply-clause-err : goal.returns-then-not-is_same_reply-clause-err
returns-then-not-is_same_reply-clause-err g c =
    let before = c.args.part.now in
    let e = c.in-Some.entry in
    let read : g.P.Wire.reads before.part c.args.line.now (Some e) = search rules in
    let number : length c.entries.result.now + 1 ≡ next_number before = search rules in
    let gives : c.in_ok-plan.plan.reply ≡ g.P.Answers.reply before.part (next_number before) e.ask = search rules in
    let other : c.is_same_reply.result ≡ false = search rules in
    (number, inr (e, read, λ same. iff_false c.is_same_reply.ensures other (gives ∙ sym same)))
