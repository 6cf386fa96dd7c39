use Rattle.std.proofs.Common.{◌≡◌, true, drop}
use Rattle.tq_txn_states.specs.Voting.{lost_file}
use Rattle.tq_evidence.specs.Evidence.{are_in_order}
use Rattle.tq_txn_states.proofs.votes.lost_file.Given as goal

abbrev pub invariant-loop-op : goal.invariant-loop-op
invariant-loop-op l = record {
  lost : lost_file (drop l.op-index l.ops) l.vote ≡ lost_file l.ops l.vote;
  order : are_in_order (drop l.op-index l.ops) ≡ true;
  place : l.lock ≡ l.op-index;
}
