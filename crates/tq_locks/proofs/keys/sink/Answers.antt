use Rattle.std.{proofs.Common.{◌≡◌, ◌-◌, ◌<◌, suc, length, ap, sym, ◌∙◌, arith}, specs.List.{insert, swap}}
use Rattle.tq_locks.proofs.Rings.{longer, swapped}
use Rattle.tq_locks.proofs.keys.sink.Goals as goal

pub loop-at-preserved : goal.loop-at-preserved
loop-at-preserved c =
    let keys = c.loop-at.keys in
    let at = c.loop-at.at in
    let invariant = c.loop-at.invariant in
    let above : c.args.place < at = c.loop-at-test.true in
    let below : at < length keys = invariant.2 in
    let same : length c.swap.new.self ≡ length keys = c.swap.ensures.len in
    let down : suc (at - 1) ≡ at = omega (arith, above) in (
      λ front key is.
          let here : keys ≡ insert front (suc (at - 1)) key = invariant.0 front key is ∙ ap (λ p. insert front p key) (sym down) in
          let size : length keys ≡ suc (length front) = invariant.3 ∙ ap length is ∙ longer front key in
          c.swap.ensures.after ∙ (λ i. swap (here i) (at - 1) (sym down i)) ∙ swapped front (at - 1) key (omega (arith, size, above, below)),
      omega (arith, above),
      omega (arith, above, below, same),
      same ∙ invariant.3,
    )
