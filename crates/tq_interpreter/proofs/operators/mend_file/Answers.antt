use Rattle.std.proofs.Common.{◌≡◌, ◌+◌, [], ◌++◌, List, Some, filter, length, refl, ap, sym, subst, ◌∙◌, arith, rules}
use Rattle.std.{proofs.lemmas.List.{append-nil, Elements.All-head}, specs.List.All}
use Rattle.tq_shape.specs.{ServerSet.has_number, Tree.Server}
use Rattle.tq_refresh.specs.{declared.job.Job.Job, Plan.{jobs_from, servers_in}}
use Rattle.tq_refresh.proofs.Walked.{left_of_tree, of_one_tree, walks-passed, walks-passes}
use Rattle.tq_text.{specs.Print.printed_line, proofs.Extended.extends_more}
use Rattle.tq_interpreter.{specs.Answer.job_text, proofs.Recording.{counted_fits, leads_from, longer, one_on}}
use Rattle.tq_interpreter.proofs.ShellLines.{later_none, later_on}
use Rattle.tq_interpreter.proofs.operators.mend_file.Goals as goal

pub mend-requires-clause-of_tree : goal.mend-requires-clause-of_tree
mend-requires-clause-of_tree c =
    let before = c.loop-server.invariant in
    let On : Server → Type 0 = λ server. server.levels ≡ c.args.up.now.levels in
    (All-head On _ _ (subst (All On) c.in-Some.ensures.steps before.of_tree) ∙ c.requires.up ∙ sym before.later.tree, c.requires.planned.1 ∙ sym before.later.tree)

pub mend-requires-clause-peek : goal.mend-requires-clause-peek
mend-requires-clause-peek c = c.in_ok-ask.ensures ∙ c.loop-server.invariant.peek

pub loop-server-init : goal.loop-server-init
loop-server-init c =
    let jobs : List Server → List Job = λ servers. jobs_from c.args.of_file.now.file (filter (λ (server : Server). has_number c.args.up.now.numbers server.number) servers) (Some c.args.of_file.now.source) in
    let start : c.into_iter-server-iterator.result ≡ servers_in c.args.of_file.now.stale = search rules in
    record {
      on = λ more. leads_from (ap (λ servers. jobs servers ++ more) (sym start)) (record { end = refl; after = refl });
      jobs = ap (λ servers. c.args.counts.now.jobs + length (jobs servers)) start;
      fits = c.requires.fits;
      of_tree = of_one_tree _ _ _ _ start (c.requires.planned.0 ∙ sym c.requires.up);
      later = later_none c.args.recorder.now;
      peek = c.in_ok-peek.ensures;
      file = c.in_ok-file.ensures;
      front = c.in_ok-set_mended_text.ensures.front;
      back = c.in_ok-set_mended_text.ensures.back;
      begun = ([], sym (append-nil c.args.text.now.items));
    }

pub loop-server-preserved-then-contains : goal.loop-server-preserved-then-contains
loop-server-preserved-then-contains c =
    let job : Server → Job = λ server. record { file = c.args.of_file.now.file; server = server; source = c.args.of_file.now.source } in
    let before = c.loop-server.invariant in
    let passes = walks-passes (λ (server : Server). has_number c.args.up.now.numbers server.number) _ _ _ c.in-Some.ensures.steps job (sym c.contains.ensures ∙ c.if-contains.true) in
    let said = c.in_ok-say_job.ensures.text in
    record {
      on = λ more. one_on _ _ _ _ _ _ _ _ _ (job c.in-Some.server) _ c.in_ok-refreshed.refreshed (leads_from (ap (λ js. js ++ more) passes) (before.on more))
          c.in_ok-refreshed.ensures.value c.in_ok-refreshed.ensures.after said c.from.ensures;
      jobs = omega (arith, before.jobs, ap length passes);
      fits = (rw c.from.ensures (counted_fits c.in_ok-refreshed.refreshed c.loop-server.counts.mended c.loop-server.counts.jobs before.fits.0), omega (arith, before.fits.1, longer _ _ (job_text (job c.in-Some.server) c.in_ok-refreshed.refreshed) said));
      of_tree = left_of_tree c.args.up.now.levels _ _ _ c.in-Some.ensures.steps before.of_tree;
      later = later_on _ _ _ before.later c.in_ok-refreshed.ensures.later;
      peek = before.peek;
      file = before.file;
      front = before.front;
      back = before.back;
      begun = extends_more _ _ _ before.begun (printed_line (job_text (job c.in-Some.server) c.in_ok-refreshed.refreshed), said);
    }

pub loop-server-preserved : goal.loop-server-preserved
loop-server-preserved c =
    let job : Server → Job = λ server. record { file = c.args.of_file.now.file; server = server; source = c.args.of_file.now.source } in
    let before = c.loop-server.invariant in
    let passed = walks-passed (λ (server : Server). has_number c.args.up.now.numbers server.number) _ _ _ c.in-Some.ensures.steps job (sym c.contains.ensures ∙ c.if-contains.false) in
    record {
      on = λ more. leads_from (ap (λ js. js ++ more) passed) (before.on more);
      jobs = ap (λ js. c.loop-server.counts.jobs + length js) (sym passed) ∙ before.jobs;
      fits = before.fits;
      of_tree = left_of_tree c.args.up.now.levels _ _ _ c.in-Some.ensures.steps before.of_tree;
      later = before.later;
      peek = before.peek;
      file = before.file;
      front = before.front;
      back = before.back;
      begun = before.begun;
    }
