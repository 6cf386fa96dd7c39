use Rattle.std.{proofs.Common.ap, specs.Result.result_ok}
use Rattle.tq_txn.proofs.Following.{follows_mark}
use Rattle.tq_txn.proofs.operating.mark.Goals as goal

pub returns-in-Some-clause-asks : goal.returns-in-Some-clause-asks
returns-in-Some-clause-asks g c =
    follows_mark c.args.levels c.args.server c.in-Some.id c.args.up (g.A.Asker.told c.args.asker.now) (g.A.Asker.told c.mark_at.new.asker) (result_ok c.mark_at.result) c.in-Some.ensures.0 (ap (λ s. s.number) c.in-Some.ensures.1) c.mark_at.ensures.asks
