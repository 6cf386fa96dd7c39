use Rattle.std.{proofs.Common.{length, ◌≡◌, ◌*◌, ◌<◌, ◌≤◌, suc}, specs.List.insert}
use Rattle.tq_locks.specs.Keys.{HasBlocks, turned_keys}
use Rattle.tq_locks.proofs.keys.pull_through.Given as goal

-- the key that is carried comes behind the block
abbrev pub invariant-loop-block : goal.invariant-loop-block
invariant-loop-block l = record {
  blocks : HasBlocks l.starts (length l.places);
  starts : length l.starts ≡ length l.fn.starts;
  places : length l.places ≡ length l.fn.places;
  above : l.first ≤ l.block;
  within : l.block < length l.starts;
  taken : insert (turned_keys l.starts l.places) (2048 * suc l.block) l.carried ≡ insert (turned_keys l.fn.starts l.fn.places) (2048 * length l.fn.starts) l.fn.key;
}

abbrev pub decreases-loop-block : goal.decreases-loop-block
decreases-loop-block l = l.block
