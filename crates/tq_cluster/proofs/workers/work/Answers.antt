use Rattle.std.proofs.Common.{refl, ℕ, ◌∙◌, sym, subst}
use Rattle.crossbeam_channel.specs.Claims.{view}
use Rattle.tq_refresh.specs.Plan.{Grows, IsBegun, refresh_asked}
use Rattle.tq_cluster.specs.{Told.CallerView, Clients.{JobsBegin, jobs_in}}
use Rattle.tq_cluster.proofs.Callers.{jobs_make_more, job_begun, jobs_begin_more}
use Rattle.tq_cluster.proofs.workers.work.Goals as goal

pub loop-preserved : goal.loop-preserved
loop-preserved g c =
    let job = c.in-Some-next_job.job in
    let old = c.loop.asking.told in
    let new = c.refresh-refused.new.asker.told in
    let before = jobs_in (view c.loop.taker.pass).taken in
    let after = jobs_in (view c.next_job.new.taker.pass).taken in
    let levels = c.args.cluster.now.levels in
    record {
      told = λ none. jobs_make_more levels before after job old new (c.loop.invariant.told (c.either-memory.ensures none).0) c.in-Some-next_job.ensures.job
          (subst (λ (n : ℕ). Grows (refresh_asked n job) old new) c.levels-levels.ensures (c.refresh-refused.ensures.asked (c.either-memory.ensures none).1));
      began = jobs_begin_more levels before after job old new c.loop.invariant.began c.in-Some-next_job.ensures.job
          (subst (λ (n : ℕ). IsBegun (refresh_asked n job) old new) c.levels-levels.ensures
          (job_begun c.levels-levels.result job old new c.refresh-refused.result c.refresh-refused.ensures.asked c.refresh-refused.ensures.begun));
      tree = c.refresh-refused.ensures.tree ∙ c.loop.invariant.tree;
      channel = c.in-Some-next_job.ensures.channel ∙ c.loop.invariant.channel;
    }

pub returns-clause-began : goal.returns-clause-began
returns-clause-began g c =
    let jobs = jobs_in (view c.loop.taker.pass).taken in
    (jobs, subst (λ (v : CallerView). JobsBegin c.args.cluster.now.levels jobs v.told) (sym c.into_caller.ensures) c.loop.invariant.began)
