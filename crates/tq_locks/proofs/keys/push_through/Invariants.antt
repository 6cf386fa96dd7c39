use Rattle.std.{proofs.Common.{length, ◌-◌, ◌≡◌, ◌*◌, ◌≤◌}, specs.List.insert}
use Rattle.tq_locks.specs.Keys.{HasBlocks, turned_keys}
use Rattle.tq_locks.proofs.keys.push_through.Given as goal

-- the key that is carried comes before the next block
abbrev pub invariant-loop-block : goal.invariant-loop-block
invariant-loop-block l = record {
  blocks : HasBlocks l.starts (length l.places);
  starts : length l.starts ≡ length l.fn.starts;
  places : length l.places ≡ length l.fn.places;
  within : l.block ≤ length l.starts;
  put : insert (turned_keys l.starts l.places) (2048 * l.block) l.carried ≡ insert (turned_keys l.fn.starts l.fn.places) l.fn.place l.fn.key;
}

abbrev pub decreases-loop-block : goal.decreases-loop-block
decreases-loop-block l = length l.initial.starts - l.block
