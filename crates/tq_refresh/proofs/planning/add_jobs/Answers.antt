use Rattle.std.proofs.Common.{◌≡◌, ◌++◌, Some, filter, ap, sym, ◌∙◌, rules}
use Rattle.tq_shape.specs.{ServerSet.has_number, Tree.Server}
use Rattle.tq_refresh.specs.{declared.job.Job.Job, Plan.{servers_in, jobs_from}}
use Rattle.tq_refresh.proofs.Walked.{of_one_tree, left_of_tree, put-passes, put-passed}
use Rattle.tq_refresh.proofs.planning.add_jobs.Goals as goal

pub loop-stale-init : goal.loop-stale-init
loop-stale-init c =
    let has = λ (server : Server). has_number c.args.up.now.numbers server.number in
    let start : c.into_iter-stale-iterator.result ≡ servers_in c.args.of_file.now.stale = search rules in
    record {
      of_tree = of_one_tree _ _ _ _ start c.requires;
      left = ap (λ servers. c.args.jobs.now.items ++ jobs_from c.args.of_file.now.file (filter has servers) (Some c.args.of_file.now.source)) start;
    }

pub loop-stale-preserved-in-Continue-1 : goal.loop-stale-preserved-in-Continue-1
loop-stale-preserved-in-Continue-1 c =
    let has = λ (server : Server). has_number c.args.up.now.numbers server.number in
    let job : Server → Job = λ server. record { file = c.args.of_file.now.file; server = server; source = c.args.of_file.now.source } in
    record {
      of_tree = left_of_tree c.args.up.now.levels _ _ _ c.in-Some.ensures.steps c.loop-stale.invariant.of_tree;
      left = put-passes has _ _ _ c.in-Some.ensures.steps job _ _ _ c.in_ok-push.ensures.items (sym c.contains.ensures ∙ c.if-contains.true) c.loop-stale.invariant.left;
    }

pub loop-stale-preserved : goal.loop-stale-preserved
loop-stale-preserved c =
    let has = λ (server : Server). has_number c.args.up.now.numbers server.number in
    let job : Server → Job = λ server. record { file = c.args.of_file.now.file; server = server; source = c.args.of_file.now.source } in
    record {
      of_tree = left_of_tree c.args.up.now.levels _ _ _ c.in-Some.ensures.steps c.loop-stale.invariant.of_tree;
      left = put-passed has _ _ _ c.in-Some.ensures.steps job _ _ (sym c.contains.ensures ∙ c.if-contains.false) c.loop-stale.invariant.left;
    }
