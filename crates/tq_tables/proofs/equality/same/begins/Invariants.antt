use Rattle.std.proofs.Common.{◌≡◌, ◌≤◌, length, take}
use Rattle.tq_tables.proofs.equality.same.begins.Given as goal

abbrev pub invariant-loop-place : goal.invariant-loop-place
invariant-loop-place g l = record {
  within : length l.first ≤ length l.journal;
  same : take l.place l.first ≡ take l.place l.journal;
}
