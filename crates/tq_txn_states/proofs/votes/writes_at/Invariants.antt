use Rattle.std.proofs.Common.{◌≡◌, ◌++◌, true, drop}
use Rattle.tq_txn_states.specs.Voting.{writes_at}
use Rattle.tq_evidence.specs.Evidence.{are_in_order}
use Rattle.tq_txn_states.proofs.votes.writes_at.Given as goal

abbrev pub invariant-loop-op : goal.invariant-loop-op
invariant-loop-op l = record {
  so_far : l.writes.items ++ writes_at (drop l.op-index l.ops) l.server ≡ writes_at l.ops l.server;
  order : are_in_order (drop l.op-index l.ops) ≡ true;
}
