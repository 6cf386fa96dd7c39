use Rattle.std.{specs.Prelude.IfOk, proofs.Common.{◌≡◌, subst}}
use Rattle.tq_live.specs.Live.{Live}
use Rattle.tq_refresh.specs.Plan.{ArePlanned, jobs_of_plan, plan_of}
use Rattle.tq_tables.specs.Tables.{TablesView, tables_of}
use Rattle.tq_interpreter.proofs.operators.current_plan.Goals as goal

pub returns-clause-jobs : goal.returns-clause-jobs
returns-clause-jobs c =
    subst (λ (v : Live). IfOk c.plan_by_file.result (λ plan. jobs_of_plan plan ≡ plan_of (tables_of c.args.service.now) v)) c.view.ensures
    (subst (λ (t : TablesView). IfOk c.plan_by_file.result (λ plan. jobs_of_plan plan ≡ plan_of t c.view.result.now)) c.tables-tables.ensures.value c.plan_by_file.ensures.value)

pub returns-clause-of_tree : goal.returns-clause-of_tree
returns-clause-of_tree c =
    subst (λ (t : TablesView). IfOk c.plan_by_file.result (λ plan. ArePlanned t.levels plan)) c.tables-tables.ensures.value c.plan_by_file.ensures.of_tree
