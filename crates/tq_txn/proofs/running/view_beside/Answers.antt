use Rattle.tq_txn.{specs.Script.view_asked, proofs.KnownLaws.open_beside}
use Rattle.tq_txn.proofs.running.view_beside.Goals as goal

pub returns-clause-txn : goal.returns-clause-txn
returns-clause-txn g c =
    open_beside (g.A.Asker.levels c.args.asker.now) (view_asked c.args.ask) (g.A.Asker.told c.args.asker.now) (g.A.Asker.told c.ask_view.new.asker) c.args.open_txn c.in_ok-ask_view.ensures.asks c.requires
