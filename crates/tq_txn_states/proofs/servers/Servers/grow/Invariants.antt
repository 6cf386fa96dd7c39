use Rattle.std.proofs.Common.{◌≡◌, ◌≤◌, ◌+◌, drop, length}
use Rattle.tq_evidence.specs.Evidence.{granters}
use Rattle.tq_txn_states.specs.Open.{with_numbers}
use Rattle.tq_txn_states.proofs.servers.Servers.grow.Given as goal

abbrev pub invariant-loop-grant : goal.invariant-loop-grant
invariant-loop-grant l = record {
  so_far : with_numbers l.self.servers (granters (drop l.grant-index l.grants)) ≡ with_numbers l.fn.self.servers (granters l.grants);
  levels : l.self.levels ≡ l.fn.self.levels;
  room : length l.grants ≤ l.self.room + l.grant-index;
}
