use Rattle.std.{proofs.Common.{◌≡◌, List, ap, subst, sym, ◌∙◌}, specs.List.{All, flat_map}}
use Rattle.tq_refresh.{specs.{declared.job.Job.Job, Plan.jobs_in}, proofs.Walked.{jobs-of_tree, all_walked}}
use Rattle.tq_refresh.proofs.planning.plan.Goals as goal

pub returns-clause-of_tree : goal.returns-clause-of_tree
returns-clause-of_tree c =
    let levels = c.args.tables.now.levels in
    let OfTree : List Job → Type 0 = All (λ job. (job.server.levels ≡ levels) × (job.source.levels ≡ levels)) in
    let planned = c.in_ok-up.field-0 in
    let made = jobs_in planned.up in
    let items = c.as_slice-of_file-items.result.now in
    let gathered = all_walked made items c.loop-of_file.of_file-index c.loop-of_file.jobs.items c.loop-of_file-test.false c.loop-of_file.invariant in
    subst OfTree (sym (gathered ∙ ap (flat_map made) c.as_slice-of_file-items.ensures.value))
    (jobs-of_tree levels planned.up planned.files.items c.in_ok-up.ensures.of_tree.files)
