use Rattle.std.{proofs.Common.{◌≡◌, take, length}, specs.Prelude.vec_len}
use Rattle.tq_merge.{specs.Told.Rise, proofs.LastNumbers.KeepsLast}
use Rattle.tq_merge.proofs.claimed.first_fallen.Given as goal

abbrev pub invariant-loop-name : goal.invariant-loop-name
invariant-loop-name l = record {
  one_each : vec_len l.last ≡ length l.counts;
  rise : Rise (take l.name-index l.names);
  keeps : KeepsLast l.last.items (take l.name-index l.names);
}
