use Rattle.std.proofs.Common.{◌∙◌, ◌++◌, ap, rules}
use Rattle.tq_refresh.specs.Plan.{jobs_of_plan}
use Rattle.tq_interpreter.{specs.Answer.{count_text, refresh_jobs}, proofs.Recording.{refreshed_end, refreshed_after}}
use Rattle.tq_text.{specs.Print.printed_line, proofs.Extended.extends_more}
use Rattle.tq_interpreter.proofs.operators.refresh_all.Goals as goal

pub returns-clause-text : goal.returns-clause-text
returns-clause-text c =
    refreshed_end c.args.recorder.now.journals (jobs_of_plan c.in_ok-plan.plan) c.args.text.now.items c.mend_all.new.text.items c.say_count.new.text.items c.in_ok-counts.counts.mended
    (c.in_ok-plan.ensures.jobs ∙ ap refresh_jobs c.service.ensures) c.in_ok-counts.ensures.text c.in_ok-counts.ensures.count
    (c.in_ok-say_count.ensures.text ∙ ap (λ n. c.mend_all.new.text.items ++ printed_line (count_text c.in_ok-counts.counts.mended n)) c.in_ok-counts.ensures.jobs)

pub returns-clause-after : goal.returns-clause-after
returns-clause-after c =
    refreshed_after c.args.recorder.now.journals (jobs_of_plan c.in_ok-plan.plan) c.args.text.now.items c.mend_all.new.recorder.journals
    (c.in_ok-plan.ensures.jobs ∙ ap refresh_jobs c.service.ensures) c.in_ok-counts.ensures.after

pub returns-in_err-say_count-clause-kept : goal.returns-in_err-say_count-clause-kept
returns-in_err-say_count-clause-kept c =
    let kept = extends_more _ _ _ c.in_ok-counts.ensures.kept c.in_err-say_count.ensures.kept in
    search rules
