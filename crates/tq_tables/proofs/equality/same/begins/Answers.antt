use Rattle.std.proofs.Common.{◌≤◌, ◌++◌, ◌∙◌, length, drop, ap, sym, refl, arith}
use Rattle.std.proofs.lemmas.List.{take_all, take-append-drop}
use Rattle.tq_tables.proofs.equality.same.begins.Goals as goal

pub returns : goal.returns
returns g c =
    let first = c.args.first.now in
    let journal = c.args.journal.now in
    let place = c.loop-place.place in
    let past : length first ≤ place = omega (arith, c.loop-place-test.false) in (
      (λ _. (drop place journal, sym (take-append-drop place journal) ∙ ap (λ l. l ++ drop place journal) (sym c.loop-place.invariant.same ∙ take_all place first past))),
      (λ _. refl),
    )
