use Rattle.std.proofs.Common.{◌∙◌, ap, subst, sym}
use Rattle.crossbeam_channel.specs.Claims.{view}
use Rattle.tq_refresh.specs.Plan.{ArePlanned, plan_of}
use Rattle.tq_tables.specs.Tables.{TablesView}
use Rattle.tq_cluster.{specs.Rounds.with_jobs, proofs.Pulled.for_workers}
use Rattle.tq_cluster.proofs.rounds.put_plan.Goals as goal

pub put_jobs-requires : goal.put_jobs-requires
put_jobs-requires g c = subst (λ levels. ArePlanned levels c.in-Ok.plan) (sym c.in-Ok.ensures.of_tree.up) c.in-Ok.ensures.of_tree

pub returns-then-put_jobs-clause-put : goal.returns-then-put_jobs-clause-put
returns-then-put_jobs-clause-put g c =
    let old = (view c.args.putter.now.pass).put in
    let over = c.tables-tables.ensures.value in
    let shown = c.view.ensures.value ∙ ap (λ (t : TablesView). t.view) over in
    c.if-put_jobs.ensures.put ∙ ap (with_jobs old) (c.in-Ok.ensures.value ∙ (λ i. plan_of (over i) (shown i)))
    ∙ sym (for_workers c.args.workers c.args.board.now old c.if-workers-eq0.false)
