use Rattle.std.proofs.{Common.{◌∙◌, arith}, lemmas.List.length_push}
use Rattle.tq_core.proofs.{Committed.{reads_of_run, reads_of_more, seen_run}, Runs.{told-next, run-next}}
use Rattle.tq_core.specs.Steps.{taken_steps}
use Rattle.tq_core.proofs.service.Service.take.Goals as goal

pub loop-step-preserved : goal.loop-step-preserved
loop-step-preserved c =
    let old = c.loop-step.invariant in
    let pushed = c.push_reserved.ensures.items in
    let grown = c.push_reserved.ensures.len in
    let count = old.5 in
    let one = length_push c.loop-step.yielded c.in-Some.step in (
      tt,
      tt,
      told-next _ _ c.loop-step.yielded _ _ c.in-Some.step c.step-result.result old.2 old.3 c.step-result.ensures.told pushed,
      run-next _ _ _ c.loop-step.yielded _ _ c.in-Some.step c.step-result.result old.2 old.3 c.step-result.ensures.told c.step-result.ensures.after c.step-result.ensures.err pushed,
      c.push_reserved.ensures.capacity ∙ old.4,
      omega arith,
    )

pub returns-in_err-results-clause-committed_reads : goal.returns-in_err-results-clause-committed_reads
returns-in_err-results-clause-committed_reads c = reads_of_run _ (seen_run _ _ c.self.view_is c.self.invariant.ran)

pub returns-clause-committed_reads : goal.returns-clause-committed_reads
returns-clause-committed_reads c = reads_of_more _ _ (seen_run _ _ c.self.view_is c.self.invariant.ran) (taken_steps c.loop-step.yielded c.loop-step.results.items) c.loop-step.invariant.3
