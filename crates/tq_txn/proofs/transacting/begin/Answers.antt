use Rattle.std.{proofs.lemmas.Result.err_from_is_err_and, specs.Result.result_ok}
use Rattle.tq_txn.{specs.Script.{closing, desk_begun}, proofs.{Following.follows_cut, LineLaws.follows_then}}
use Rattle.tq_txn.proofs.transacting.begin.Goals as goal

pub returns-in_err-_none-clause-asks : goal.returns-in_err-_none-clause-asks
returns-in_err-_none-clause-asks g c =
    let p = err_from_is_err_and c.from_residual.result c.from_residual.ensures.1 in
    rw p.1 (follows_cut (closing c.args.open_txn) (λ none. desk_begun c.args.levels c.args.limits) (g.A.Asker.told c.args.asker.now) (g.A.Asker.told c.close.new.asker) c.in_err-_none.ensures.asks)

pub returns-clause-asks : goal.returns-clause-asks
returns-clause-asks g c =
    follows_then (closing c.args.open_txn) (λ none. desk_begun c.args.levels c.args.limits) c.in_ok-_none._none (g.A.Asker.told c.args.asker.now) (g.A.Asker.told c.close.new.asker) (g.A.Asker.told c.ask_begin.new.asker) (result_ok c.ask_begin.result)
    c.in_ok-_none.ensures.asks c.ask_begin.ensures.asks
