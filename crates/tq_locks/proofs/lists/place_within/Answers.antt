use Rattle.std.proofs.Common.{ℕ, List, length, ap, sym, ◌∙◌, arith}
use Rattle.slab.specs.Slab.{get}
use Rattle.tq_locks.specs.{Kept.is_under_at, Locks.LockKey}
use Rattle.tq_locks.proofs.{Found.locks_total, Partition.{behind_under, upto_other, place_most, middle}}
use Rattle.tq_locks.proofs.lists.place_within.Goals.{then-is_below_at, else-is_below_at}
use Rattle.tq_locks.proofs.lists.place_within.Goals as goal

pub loop-low-init : goal.loop-low-init
loop-low-init c =
    let len = c.len-high.ensures ∙ ap (λ (ks : List ℕ). length ks) c.lend-lent.ensures in
    let last = c.saturating_sub-at.ensures in
    record {
      ends = (omega arith, omega (arith, len));
      next = λ more. (omega arith, omega (arith, last, more));
      between = λ entries listed sorted.
          let most = place_most locks_total (get c.args.entries.now) (c.args.file.now, c.args.txn) c.args.keys.now.items entries listed in
          (omega arith, omega (arith, len, most));
    }

pub loop-low-preserved : goal.loop-low-preserved
loop-low-preserved c =
    let find = get c.args.entries.now in
    let name : LockKey = (c.args.file.now, c.args.txn) in
    let keys = c.args.keys.now.items in
    let test = ap (λ (ks : List ℕ). is_under_at c.args.entries.now name ks c.loop-low.at) (sym c.lend-lent.ensures) ∙ sym c.is_below_at.ensures in
    let low = c.if-is_below_at.low in
    let high = c.if-is_below_at.high in
    let ends = c.loop-low.invariant.ends in
    let at = c.loop-low.invariant.next c.loop-low-test.true in
    elim c.if-is_below_at.branch [
      | then-is_below_at w ↦
          record {
            ends = (omega (arith, w.low-is, w.high-is, at), omega (arith, w.high-is, ends));
            next = middle low high;
            between = λ entries listed sorted.
                let old = c.loop-low.invariant.between entries listed sorted in
                let before = behind_under locks_total find name keys entries c.loop-low.at listed sorted (test ∙ w.if-is_below_at.true) in
                (omega (arith, w.low-is, before), omega (arith, w.high-is, old.1));
          }
      | else-is_below_at w ↦
          record {
            ends = (omega (arith, w.low-is, w.high-is, at), omega (arith, w.high-is, at, ends));
            next = middle low high;
            between = λ entries listed sorted.
                let old = c.loop-low.invariant.between entries listed sorted in
                let behind = upto_other locks_total find name keys entries c.loop-low.at listed (omega (arith, at, ends)) (test ∙ w.if-is_below_at.false) in
                (omega (arith, w.low-is, old.0), omega (arith, w.high-is, behind));
          }
    ]
