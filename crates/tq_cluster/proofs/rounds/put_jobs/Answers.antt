use Rattle.std.{proofs.Common.{ap, ◌∙◌}, specs.List.flat_map}
use Rattle.crossbeam_channel.specs.Claims.{view}
use Rattle.tq_refresh.specs.Plan.{jobs_in}
use Rattle.tq_cluster.{specs.Rounds.with_jobs, proofs.Pulled.{file_put, files_put}}
use Rattle.tq_cluster.proofs.rounds.put_jobs.Goals as goal

pub loop-of_file-preserved : goal.loop-of_file-preserved
loop-of_file-preserved g c =
    record {
      left = file_put (jobs_in c.args.plan.now.up) c.as_slice-of_file-items.result.now c.loop-of_file.of_file-index c.of_file-item.result c.loop-of_file-test.true c.of_file-item.is
          (view c.loop-of_file.putter.pass).put _ _ c.if-not-put_jobs_of.ensures.put c.loop-of_file.invariant.left;
      channel = cc;
      parts = cc;
      taken = cc;
    }

pub returns-clause-put : goal.returns-clause-put
returns-clause-put g c =
    files_put (jobs_in c.args.plan.now.up) c.as_slice-of_file-items.result.now c.loop-of_file.of_file-index (view c.loop-of_file.putter.pass).put
    (with_jobs (view c.args.putter.now.pass).put (flat_map (jobs_in c.args.plan.now.up) c.as_slice-of_file-items.result.now)) c.loop-of_file-test.false c.loop-of_file.invariant.left
    ∙ ap (λ files. with_jobs (view c.args.putter.now.pass).put (flat_map (jobs_in c.args.plan.now.up) files)) c.as_slice-of_file-items.ensures.value
