use Rattle.std.{proofs.Common.{◌≡◌, ◌==◌, List, Option, true, drop}, specs.List.list_all}
use Rattle.tq_coterie.specs.Coterie.{numbers_of}
use Rattle.tq_txn.specs.{Dialogue.{LineEnd, Follows}, Lines.{KeepsRelease, ending_line}, Told.IsEndTold}
use Rattle.tq_txn.specs.declared.asker.Exchange.{Exchange}
use Rattle.tq_txn.proofs.endings.end_by.Given as goal

-- what follows from here with the servers that are left follows from the start with all of them
abbrev pub invariant-loop-server : goal.invariant-loop-server
invariant-loop-server g l = record {
  tree : g.A.Asker.levels l.asker ≡ g.A.Asker.levels l.initial.asker;
  of_tree : list_all (λ id. id.levels == g.A.Asker.levels l.asker) (drop l.server-index l.servers) ≡ true;
  told : IsEndTold (g.A.Asker.told l.asker) l.ended;
  release : KeepsRelease l.ended.txn l.release;
  asks : (after : List Exchange) (end : Option (LineEnd (Unit {0}) (Unit {0})))
      → Follows (ending_line l.ended (numbers_of (drop l.server-index l.servers))) (g.A.Asker.told l.asker) after end
      → Follows (ending_line l.ended (numbers_of l.servers)) (g.A.Asker.told l.initial.asker) after end;
}
