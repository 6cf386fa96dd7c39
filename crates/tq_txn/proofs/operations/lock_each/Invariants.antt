use Rattle.std.{proofs.Common.{◌≡◌, ◌==◌, List, true, drop}, specs.{List.list_all, Prelude.Result}}
use Rattle.tq_coterie.specs.Coterie.{numbers_of}
use Rattle.tq_evidence.specs.declared.grant.Grant.{Grant}
use Rattle.tq_txn_states.specs.Open.{OpenView}
use Rattle.tq_txn.specs.{declared.fault.LineFault.LineFault, Lines.{IsLocking, lock_ask, locks_line}}
use Rattle.tq_txn.specs.declared.asker.Exchange.{Exchange}
use Rattle.tq_txn.proofs.operations.lock_each.Given as goal

-- what follows from here with the servers that are left follows from the start with all of them
abbrev pub invariant-loop-server : goal.invariant-loop-server
invariant-loop-server g l = record {
  tree : g.A.Asker.levels l.asker ≡ g.A.Asker.levels l.initial.asker;
  of_tree : list_all (λ id. id.levels == g.A.Asker.levels l.asker) (drop l.server-index l.servers) ≡ true;
  same : l.open.levels ≡ g.A.Asker.levels l.asker;
  ask : l.ask ≡ lock_ask l.open.txn l.lock.file l.lock.mode;
  locks : (later : List Exchange) (new : OpenView) (after : List Grant) (result : Result (Unit {0}) LineFault)
      → IsLocking l.lock (locks_line l.lock.file l.lock.mode (numbers_of (drop l.server-index l.servers))) (numbers_of (drop l.server-index l.servers)) (g.A.Asker.told l.asker) later l.open new l.grants.items after result
      → IsLocking l.lock (locks_line l.lock.file l.lock.mode (numbers_of l.servers)) (numbers_of l.servers) (g.A.Asker.told l.initial.asker) later l.initial.open new l.initial.grants.items after result;
}
