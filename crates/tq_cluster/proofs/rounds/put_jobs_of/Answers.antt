use Rattle.std.proofs.Common.{◌≡◌, Some, filter, ap, sym, ◌∙◌, rules}
use Rattle.crossbeam_channel.specs.Claims.{view}
use Rattle.tq_shape.specs.{ServerSet.has_number, Tree.Server}
use Rattle.tq_refresh.specs.{declared.job.Job.Job, Plan.{servers_in, jobs_from}}
use Rattle.tq_refresh.proofs.Walked.{of_one_tree, left_of_tree, walks-passes, walks-passed}
use Rattle.tq_cluster.{specs.Rounds.with_jobs, proofs.Pulled.one_put}
use Rattle.tq_cluster.proofs.rounds.put_jobs_of.Goals as goal

pub loop-stale-init : goal.loop-stale-init
loop-stale-init g c =
    let has = λ (server : Server). has_number c.args.up.now.numbers server.number in
    let start : c.into_iter-stale-iterator.result ≡ servers_in c.args.of_file.now.stale = search rules in
    record {
      of_tree = of_one_tree _ _ _ _ start c.requires;
      left = ap (λ servers. with_jobs (view c.args.putter.now.pass).put (jobs_from c.args.of_file.now.file (filter has servers) (Some c.args.of_file.now.source))) start;
      channel = cc;
      parts = cc;
      taken = cc;
    }

pub loop-stale-preserved-else-not-put : goal.loop-stale-preserved-else-not-put
loop-stale-preserved-else-not-put g c =
    let has = λ (server : Server). has_number c.args.up.now.numbers server.number in
    let job : Server → Job = λ server. record { file = c.args.of_file.now.file; server = server; source = c.args.of_file.now.source } in
    record {
      of_tree = left_of_tree c.args.up.now.levels _ _ _ c.in-Some.ensures.steps c.loop-stale.invariant.of_tree;
      left = one_put _ _ _ _ c.if-not-put.ensures.put ∙ ap (with_jobs (view c.loop-stale.putter.pass).put) (sym (walks-passes has _ _ _ c.in-Some.ensures.steps job (sym c.contains.ensures ∙ c.if-contains.true))) ∙ c.loop-stale.invariant.left;
      channel = cc;
      parts = cc;
      taken = cc;
    }

pub loop-stale-preserved : goal.loop-stale-preserved
loop-stale-preserved g c =
    let has = λ (server : Server). has_number c.args.up.now.numbers server.number in
    let job : Server → Job = λ server. record { file = c.args.of_file.now.file; server = server; source = c.args.of_file.now.source } in
    record {
      of_tree = left_of_tree c.args.up.now.levels _ _ _ c.in-Some.ensures.steps c.loop-stale.invariant.of_tree;
      left = ap (with_jobs (view c.loop-stale.putter.pass).put) (sym (walks-passed has _ _ _ c.in-Some.ensures.steps job (sym c.contains.ensures ∙ c.if-contains.false))) ∙ c.loop-stale.invariant.left;
      channel = cc;
      parts = cc;
      taken = cc;
    }
