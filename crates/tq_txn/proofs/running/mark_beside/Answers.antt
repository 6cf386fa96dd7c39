use Rattle.std.proofs.Common.{rules}
use Rattle.tq_txn.{specs.{Dialogue.Ends, Script.mark_asked}, proofs.{Following.follows_cut, KnownLaws.open_beside}}
use Rattle.tq_txn.proofs.running.mark_beside.Goals as goal

pub returns-in_err-mark-clause-asks : goal.returns-in_err-mark-clause-asks
returns-in_err-mark-clause-asks g c =
    let cut = follows_cut (mark_asked c.args.levels c.args.server c.args.up) (λ asked. Ends c.args.open_txn) (g.A.Asker.told c.args.asker.now) (g.A.Asker.told c.mark.new.asker) c.in_err-mark.ensures.asks in
    search rules

pub returns-clause-txn : goal.returns-clause-txn
returns-clause-txn g c =
    open_beside c.args.levels (mark_asked c.args.levels c.args.server c.args.up) (g.A.Asker.told c.args.asker.now) (g.A.Asker.told c.mark.new.asker) c.args.open_txn c.in_ok-mark.ensures.asks c.requires.txn
