use Rattle.std.proofs.Common.{◌≡◌, ◌≤◌, ◌++◌, drop, length, vec_capacity, vec_len}
use Rattle.tq_txn_states.specs.Open.{grants_of, not_a_grant}
use Rattle.tq_txn_states.proofs.grants.grants_of.Given as goal

abbrev pub invariant-loop-told : goal.invariant-loop-told
invariant-loop-told l = record {
  so_far : l.grants.items ++ grants_of l.kind l.txn l.file (drop l.told-index l.answers) ≡ grants_of l.kind l.txn l.file l.answers;
  fault : not_a_grant l.kind l.txn l.file (drop l.told-index l.answers) ≡ not_a_grant l.kind l.txn l.file l.answers;
  len : vec_len l.grants ≡ l.told-index;
  room : length l.answers ≤ vec_capacity l.grants;
}
