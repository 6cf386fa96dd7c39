use Rattle.std.proofs.Common.{List, Some, filter, find, ap, sym, ◌∙◌}
use Rattle.tq_shape.specs.{ServerSet.Servers, Tree.Server}
use Rattle.tq_live.specs.Live.{is_up}
use Rattle.tq_refresh.{specs.Plan.{servers_in, jobs_from, jobs_in}, proofs.{Marked.filter-up, Walked.no-jobs}}
use Rattle.tq_refresh.proofs.planning.file_jobs.Goals as goal

pub returns-in_default-clause-value : goal.returns-in_default-clause-value
returns-in_default-clause-value c = λ live is.
    let up = λ (server : Server). is_up live server.number in
    no-jobs c.args.row.now.file up (servers_in c.args.row.now.stale) (find up (servers_in c.args.row.now.current)) (sym c.in_default.is ∙ c.first_up.ensures.value live is)

pub returns-clause-value : goal.returns-clause-value
returns-clause-value c = λ live is.
    let file = c.args.row.now.file in
    let source = c.in-Some-first_up.source in
    let up = λ (server : Server). is_up live server.number in
    ap (λ (stale : Servers). jobs_in c.args.up.now (record { file = file; stale = stale; source = source })) c.in_ok-clone.ensures.cases
    ∙ ap (λ (servers : List Server). jobs_from file servers (Some source)) (filter-up live c.args.up.now c.args.row.now.stale is c.requires.stale c.first_up.ensures.servers)
    ∙ ap (jobs_from file (filter up (servers_in c.args.row.now.stale))) (sym c.in-Some-first_up.is ∙ c.first_up-2.ensures.value live is)
