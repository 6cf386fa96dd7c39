use Rattle.std.proofs.Common.{◌≡◌, ◌≤◌, length, take}
use Rattle.tq_evidence.specs.Evidence as spec
use Rattle.tq_evidence.proofs.grants.granters.Given as goal

abbrev pub invariant-loop-grant : goal.invariant-loop-grant
invariant-loop-grant l = record {
  so_far : l.servers.items ≡ spec.granters (take l.grant-index l.grants);
  len : length l.servers.items ≡ l.grant-index;
  room : length l.grants ≤ l.servers.capacity;
}
