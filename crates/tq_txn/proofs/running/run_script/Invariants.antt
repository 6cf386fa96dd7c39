use Rattle.std.{proofs.Common.{◌≡◌, List, Option, None, drop}, specs.Option.IfSome}
use Rattle.tq_txn.specs.{declared.asker.Exchange.Exchange, Dialogue.Follows, Script.script_asked, Told.IsOpenIn}
use Rattle.tq_txn.proofs.running.run_script.Given as goal

-- whatever the lines that are left ask from now on, all lines ask, with what was told so far before it
abbrev pub invariant-loop-line : goal.invariant-loop-line
invariant-loop-line g l = record {
  asks : (new : List Exchange) (end : Option (Unit {0})) → Follows (script_asked l.fn.levels l.fn.limits (drop l.line-index l.lines) l.open_txn) (g.A.Asker.told l.asker) new end → Follows (script_asked l.fn.levels l.fn.limits l.lines None) (g.A.Asker.told l.fn.asker) new end;
  tree : g.A.Asker.levels l.asker ≡ g.A.Asker.levels l.fn.asker;
  txn : IfSome l.open_txn (IsOpenIn l.fn.levels (g.A.Asker.told l.asker));
}
