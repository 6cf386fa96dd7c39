use Rattle.std.proofs.Common.{◌∙◌, [], ◌∷◌, ◌++◌, ap}
use Rattle.crossbeam_channel.specs.Claims.{view}
use Rattle.tq_cluster.{specs.{declared.workers.Message.Message, Clients.jobs_in}, proofs.Callers.{job_more, stop_more}}
use Rattle.tq_cluster.proofs.workers.next_job.Goals as goal

pub returns-in-Some-Job-clause-job : goal.returns-in-Some-Job-clause-job
returns-in-Some-Job-clause-job g c =
    let before = (view c.args.taker.now.pass).taken in
    let took = c.in-Some-Job.ensures.taken in
    ap jobs_in took.1 ∙ ap (λ (m : Message). jobs_in (before ++ (took.0, m) ∷ [])) c.in-Some-Job.field-0-is ∙ job_more before took.0 c.in-Some-Job.job

pub returns-in-Some-Stop-clause-stop : goal.returns-in-Some-Stop-clause-stop
returns-in-Some-Stop-clause-stop g c =
    let before = (view c.args.taker.now.pass).taken in
    let took = c.in-Some-Stop.ensures.taken in
    ap jobs_in took.1 ∙ ap (λ (m : Message). jobs_in (before ++ (took.0, m) ∷ [])) c.in-Some-Stop.field-0-is ∙ stop_more before took.0
