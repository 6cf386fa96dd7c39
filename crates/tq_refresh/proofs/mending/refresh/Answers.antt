use Rattle.std.proofs.Common.{sym, ◌∙◌}
use Rattle.tq_refresh.{specs.Plan.{Grows, worker_asked}, proofs.Walked.{refreshed, not_refused}}
use Rattle.tq_refresh.proofs.mending.refresh.Goals as goal

pub returns-clause-asked : goal.returns-clause-asked
returns-clause-asked g c = λ none.
    let job = c.args.job.now in
    let old = g.A.Asker.told c.args.asker.now in
    let new = g.A.Asker.told c.mend.new.asker in
    refreshed c.args.levels c.levels.result c.levels-2.result job old new c.levels.ensures c.levels-2.ensures (sym c.if-ne.false ∙ c.ne.ensures) (sym c.if-ne-2.false ∙ c.ne-2.ensures)
    (not_refused (Grows (worker_asked job) old new) c.mend.result c.mend.ensures.asked (sym c.is_err.ensures.value ∙ none))
