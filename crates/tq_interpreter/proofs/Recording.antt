-- Jobs one after another, and what each asks. What a recorder notes of a step: it is told last, and all that was told
-- leads to the journals after the step.
use Rattle.std.specs.{Int.from_bool, Prelude.{nat_le, if◌then◌else◌, OnOk, OnErr}, List.{All, Contains, flat_map}}
use Rattle.std.{specs.Option.{option_map, unwrap_or}, proofs.lemmas.{Bool.eqb-true, List.length-append}}
use Rattle.std.proofs.Common.{◌≡◌, ◌∙◌, ◌+◌, ◌≤◌, ℕ, Bool, true, cond, List, [], ◌∷◌, ◌++◌, length, append_assoc, None, Err, false, refl, sym, ap, subst, arith, suc, Option, Some, Result, Ok, append-nil, inl, inr, ◌==◌}
use Rattle.std.proofs.lemmas.List.Elements.{All-nil, All-cons, All-head, All-tail, All-push, All-weaker, All-contains}
use Rattle.tq_tables.specs.Journals.{JournalsView}
use Rattle.tq_core.specs.declared.answer.Step.TheVariants as steps
use Rattle.tq_core.specs.Steps.{world_after, IsTold, told_at, refuse_unfounded, refuse_entry, refuse_at, refusal, answer, world_with_step, server_journal, node_entry, desk_entry, view_entry}
use Rattle.tq_core.specs.declared.answer.{Answer.Answer, Refusal.Refusal, Step.Step}
use Rattle.tq_core.specs.{declared.citation.Citation.Citation, Founded.{unfounded_in_node_ask, unfounded_in_desk_ask}}
use Rattle.tq_core.specs.{World.{item_at, server_entry}, Service.{refusal_of, told_by as told_step}}
use Rattle.tq_core.proofs.Contents.{granted-founded, voted-founded, commit-founded, verdict-founded}
use Rattle.tq_core.proofs.Journaled.{desk_new, desk_stays, entry_new, entry_stays}
use Rattle.tq_asks.specs.declared.ask.{NodeAsk.NodeAsk, NodeReply.NodeReply, Verdict.Verdict}
use Rattle.tq_txn.specs.declared.asker.Exchange.TheVariants as exchanges
use Rattle.tq_shape.specs.{declared.fault.AskFault.AskFault, Journal.{Has, entry, state_at}, declared.part.Part.Part}
use Rattle.tq_shape.specs.declared.journaled.Answered.{Answered}
use Rattle.tq_shape.specs.declared.fault.AskFault.TheVariants as faults
use Rattle.tq_txn.specs.Dialogue.{Told, Dialogue, Ends, AsksNode, AsksDesk, AsksView, then_line, node_exchange, fault_of_ask, unless_memory}
use Rattle.tq_txn.specs.{declared.asker.Exchange.Exchange, Told.{IsVerdictTold, answers_in}}
use Rattle.tq_refresh.specs.{declared.job.Job.Job, Plan.{answer_in, mends_asked}}
use Rattle.tq_interpreter.specs.Answer.{LeadsOn, Mended, nothing_mended, behind, so_far, jobs_asked, with_job, job_text, count_text, refresh_asked, refresh_jobs, refreshed_text}
use Rattle.tq_interpreter.specs.Recorded.{Ran, run_line, node_told, desk_told, view_told, untaken_at, step_refusal, told_by, mark_of, RecorderView, StandsIn, IsReplayed, told_exchanges, step_of, Matches, Replays}
use Rattle.tq_interpreter.proofs.ShellLines.{replays_on, then_ran, replays_push}
use Rattle.tq_text.specs.Print.{printed_line, is_memory}
use Rattle.tq_desk.specs.{declared.ask.DeskAsk.DeskAsk, DeskStep.cited_votes, DeskJournal.gives_verdict}
use Rattle.tq_desk.specs.declared.ask.DeskReply.{DeskReply}
use Rattle.tq_desk.specs.declared.ask.DeskAsk.TheVariants as desk_asks
use Rattle.tq_desk.specs.declared.ask.DeskRefusal.TheVariants as desk_refusals
use Rattle.tq_desk.specs.declared.ask.DeskReply.TheVariants as desk_replies
use Rattle.tq_asks.specs.declared.ask.Verdict.TheVariants as verdicts
use Rattle.tq_txn_states.specs.{Ended.verdict_by, declared.told.NodeTold.NodeTold}
use Rattle.tq_txn_states.specs.Voting.{CitesOnly, IsOpTold, IsVoteTold, grant_told, vote_told}
use Rattle.tq_evidence.specs.declared.grant.Grant.{Grant}
use Rattle.tq_live.specs.declared.view.{ViewAsk.ViewAsk, ViewReply.ViewReply}
use Rattle.tq_node.specs.NodeJournal.{NodeEntry}
use Rattle.tq_core.specs.declared.answer.Refusal.TheVariants as refusals
use Rattle.tq_core.specs.declared.answer.Reply.TheVariants as replies
use Rattle.tq_shape.specs.declared.part.Part.TheVariants as parts

pub node_answered : (server : ℕ) (ask : NodeAsk) (told : Told NodeReply) (old new : RecorderView) → IsReplayed old → IsReplayed new → new.journals.levels ≡ old.journals.levels → new.told ≡ old.told ++ exchanges.Node server ask told ∷ []
    → (told ≡ node_told old.journals server ask) × (new.journals ≡ world_after old.journals (steps.Node server ask))
node_answered server ask told old new replayed_old replayed_new levels grew =
    replays_on old new (exchanges.Node server ask told ∷ []) replayed_old replayed_new levels grew

-- nor is anything told of one that was not taken
pub node_refused : (server : ℕ) (ask : NodeAsk) (fault : AskFault) (old new : RecorderView) → is_memory (fault_of_ask fault) ≡ false → IsReplayed old → IsReplayed new → new.journals.levels ≡ old.journals.levels → new.told ≡ old.told ++ node_exchange server ask (Err fault)
    → (None ≡ answer_in (node_told old.journals server ask)) × (new.journals ≡ world_after old.journals (steps.Node server ask))
node_refused server ask faults.Memory old new fine replayed_old replayed_new levels grew = absurd cc
node_refused server ask fault old new fine replayed_old replayed_new levels grew =
    let is = node_answered server ask (Err fault) old new replayed_old replayed_new levels grew in
    (ap answer_in is.0, is.1)

-- three texts behind one another
pub three_texts : (old a b c x y z : List ℕ) → x ≡ old ++ a → y ≡ x ++ b → z ≡ y ++ c → z ≡ old ++ (a ++ (b ++ c))
three_texts old a b c x y z first second third =
    third ∙ ap (λ t. t ++ c) (second ∙ ap (λ t. t ++ b) first) ∙ append_assoc (old ++ a) b c ∙ append_assoc old a (b ++ c)

-- what a line that is run says by its end and the world after it
abbrev at_end : {A : Type 0} (X : Type 0) → (A → JournalsView → X) → JournalsView → Dialogue A → X
at_end X part old line = part (run_line old line).end (run_line old line).after

-- two lines, the second by the first's end, are run one after the other
then_of : {A B : Type 0} (X : Type 0) (part : B → JournalsView → X) (line : Dialogue A) (next : A → Dialogue B) (old : JournalsView)
    → at_end X part old (then_line line next) ≡ at_end X part (run_line old line).after (next (run_line old line).end)
then_of X part (Ends a) next old = refl
then_of X part (AsksNode server ask more) next old = then_of X part (more (node_told old server ask)) next (world_after old (steps.Node server ask))
then_of X part (AsksDesk ask more) next old = then_of X part (more (desk_told old ask)) next (world_after old (steps.Desk ask))
then_of X part (AsksView ask more) next old = then_of X part (more (view_told old ask)) next (world_after old (steps.View ask))

-- ---- jobs one after another

-- a truth as a number
pub counted : (b : Bool) → from_bool b ≡ cond b 1 0
counted true = refl
counted false = refl

-- one more counts at most one
pub counted_fits : (b : Bool) (count index : ℕ) → count ≤ index → count + from_bool b ≤ index + 1
counted_fits true count index fits = omega (arith, fits)
counted_fits false count index fits = omega (arith, fits)

-- after one job more, the jobs left come to what all come to
job_on : (X : Type 0) (part : Mended → JournalsView → X) (old after : JournalsView) (mended : Mended) (job : Job) (jobs : List Job) (refreshed : Bool)
    → refreshed ≡ (run_line old (mends_asked job)).end → after ≡ (run_line old (mends_asked job)).after
    → at_end X part after (jobs_asked (with_job mended job refreshed) jobs) ≡ at_end X part old (jobs_asked mended (job ∷ jobs))
job_on X part old after mended job jobs refreshed is there =
    let next = λ (done : Bool). jobs_asked (with_job mended job done) jobs in
    (λ k. at_end X part (there k) (next (is k))) ∙ sym (then_of X part (mends_asked job) next old)

-- the same jobs may be listed otherwise
pub leads_from : {old new : JournalsView} {start done : Mended} {jobs some left : List Job} → some ≡ left → LeadsOn old start jobs new done some → LeadsOn old start jobs new done left
leads_from {old = old} {new = new} {start = start} {done = done} {jobs = jobs} same leads = subst (λ (js : List Job). LeadsOn old start jobs new done js) same leads

-- after one job more, the jobs behind it come to what all come to
pub one_on : (old : JournalsView) (start : Mended) (jobs : List Job) (now after : JournalsView) (text_now text_after : List ℕ) (count number : ℕ) (job : Job) (left : List Job) (refreshed : Bool)
    → LeadsOn old start jobs now (so_far text_now count) (job ∷ left) → refreshed ≡ (run_line now (mends_asked job)).end → after ≡ (run_line now (mends_asked job)).after
    → text_after ≡ text_now ++ printed_line (job_text job refreshed) → number ≡ from_bool refreshed → LeadsOn old start jobs after (so_far text_after (count + number)) left
one_on old start jobs now after text_now text_after count number job left refreshed leads is there said counts =
    let before = so_far text_now count in
    let is_with : so_far text_after (count + number) ≡ with_job before job refreshed = λ k. record { text = said k; count = count + (counts ∙ counted refreshed) k } in
    record {
      end = ap (λ m. (run_line after (jobs_asked m left)).end) is_with ∙ job_on Mended (λ m w. m) now after before job left refreshed is there ∙ leads.end;
      after = ap (λ m. (run_line after (jobs_asked m left)).after) is_with ∙ job_on JournalsView (λ m w. w) now after before job left refreshed is there ∙ leads.after;
    }

-- ---- how many jobs there were, which are no more than the bytes that they left

-- a line is a byte or more
pub longer : (text_now text_after line : List ℕ) → text_after ≡ text_now ++ printed_line line → length text_now + 1 ≤ length text_after
longer text_now text_after line said =
    let long : length text_after ≡ length text_now + (length line + 1) =
    ap length said ∙ length-append text_now (printed_line line) ∙ ap (λ n. length text_now + n) (length-append line (10 ∷ [])) in
    omega (arith, long)

-- ---- jobs behind a text

-- one job's line goes behind what stands
pub line_behind : (text : List ℕ) (mended : Mended) (job : Job) (refreshed : Bool) → with_job (behind text mended) job refreshed ≡ behind text (with_job mended job refreshed)
line_behind text mended job refreshed = λ k. record { text = append_assoc text mended.text (printed_line (job_text job refreshed)) k; count = mended.count + cond refreshed 1 0 }

-- and so do the lines of all jobs
jobs_behind : (X : Type 0) (part : Mended → JournalsView → X) (text : List ℕ) (jobs : List Job) (mended : Mended) (old : JournalsView)
    → at_end X part old (jobs_asked (behind text mended) jobs) ≡ at_end X (λ m w. part (behind text m) w) old (jobs_asked mended jobs)
jobs_behind X part text [] mended old = refl
jobs_behind X part text (job ∷ jobs) mended old =
    let done = run_line old (mends_asked job) in
    then_of X part (mends_asked job) (λ r. jobs_asked (with_job (behind text mended) job r) jobs) old
    ∙ ap (λ m. at_end X part done.after (jobs_asked m jobs)) (line_behind text mended job done.end)
    ∙ jobs_behind X part text jobs (with_job mended job done.end) done.after
    ∙ sym (then_of X (λ m w. part (behind text m) w) (mends_asked job) (λ r. jobs_asked (with_job mended job r) jobs) old)

-- ---- the whole line

-- what all jobs of the plan came to, and how many they were, is what the line says
pub refreshed_end : (old : JournalsView) (jobs : List Job) (before middle after : List ℕ) (count : ℕ) → jobs ≡ refresh_jobs old
    → middle ≡ (run_line old (jobs_asked (behind before nothing_mended) jobs)).end.text → count ≡ (run_line old (jobs_asked (behind before nothing_mended) jobs)).end.count
    → after ≡ middle ++ printed_line (count_text count (length jobs)) → after ≡ before ++ (run_line old (refresh_asked old)).end
refreshed_end old jobs before middle after count planned texts counts said =
    let came : Mended → List ℕ = λ m. m.text ++ printed_line (count_text m.count (length jobs)) in
    let mended = (run_line old (jobs_asked nothing_mended jobs)).end in
    let ran = then_ran (jobs_asked nothing_mended (refresh_jobs old)) (refreshed_text (length (refresh_jobs old))) old in
    said ∙ (λ k. texts k ++ printed_line (count_text (counts k) (length jobs)))
    ∙ ap came (jobs_behind Mended (λ m w. m) before jobs nothing_mended old)
    ∙ append_assoc before mended.text (printed_line (count_text mended.count (length jobs)))
    ∙ ap (λ all. before ++ refreshed_text (length all) (run_line old (jobs_asked nothing_mended all)).end) planned
    ∙ ap (λ (r : Ran (List ℕ)). before ++ r.end) (sym ran)

pub refreshed_after : (old : JournalsView) (jobs : List Job) (before : List ℕ) (after : JournalsView) → jobs ≡ refresh_jobs old → after ≡ (run_line old (jobs_asked (behind before nothing_mended) jobs)).after
    → after ≡ (run_line old (refresh_asked old)).after
refreshed_after old jobs before after planned leads =
    let ran = then_ran (jobs_asked nothing_mended (refresh_jobs old)) (refreshed_text (length (refresh_jobs old))) old in
    leads ∙ jobs_behind JournalsView (λ m w. w) before jobs nothing_mended old
    ∙ ap (λ all. (run_line old (jobs_asked nothing_mended all)).after) planned ∙ ap (λ (r : Ran (List ℕ)). r.after) (sym ran)

-- ---- recording

-- ---- the tree stays

levels_grown : (world : JournalsView) (step : Step) → (world_with_step world step).levels ≡ world.levels
levels_grown world (steps.Node server ask) = refl
levels_grown world step = refl

pub levels_after : (world : JournalsView) (step : Step) → (world_after world step).levels ≡ world.levels
levels_after world step = by (refusal world step)
  where
    by : (r : Option Refusal) → (state_at r world (world_with_step world step)).levels ≡ world.levels
    by None = levels_grown world step
    by (Some reason) = refl

-- ---- what a step was told

told_ok : (r : Option Refusal) (a b : Answer) → Path (Result Answer Refusal) (Ok b) (told_at r a) → (r ≡ None) × (b ≡ a)
told_ok None a b is = (refl, cc)
told_ok (Some reason) a b is = absurd cc

told_err : (r : Option Refusal) (a : Answer) (reason : Refusal) → Path (Result Answer Refusal) (Err reason) (told_at r a) → r ≡ Some reason
told_err None a reason is = absurd cc
told_err (Some other) a reason is = cc

-- an ask that the part takes, and one that it does not
taken_at : (world : JournalsView) (part : Part) (entries : ℕ) (unfounded : Option Citation) → refuse_entry world part entries unfounded ≡ None → untaken_at world part entries unfounded ≡ None
taken_at world part entries unfounded = by (nat_le world.limits.entries entries) unfounded
  where
    by : (full : Bool) (c : Option Citation) → (if full then Some (refusals.JournalFull part) else refuse_unfounded c) ≡ None
        → (if full then Some (faults.JournalFull part) else option_map (λ (citation : Citation). faults.Unfounded citation.part citation.number) c) ≡ None
    by true c is = absurd (let some : Path (Option Refusal) (Some (refusals.JournalFull part)) None = is in cc)
    by false None is = refl
    by false (Some citation) is = absurd (let some : Path (Option Refusal) (Some (refusals.Unfounded citation.part citation.number)) None = is in cc)

same_fault : (one two : AskFault) → Path (Option Refusal) (Some (refusal_of one)) (Some (refusal_of two)) → one ≡ two
same_fault faults.Memory faults.Memory is = refl
same_fault (faults.JournalFull part) (faults.JournalFull other) is = cc
same_fault (faults.Unfounded part number) (faults.Unfounded other cited) is = cc
same_fault one two is = absurd cc

untaken_is : (world : JournalsView) (part : Part) (entries : ℕ) (unfounded : Option Citation) (fault : AskFault) → refuse_entry world part entries unfounded ≡ Some (refusal_of fault) → untaken_at world part entries unfounded ≡ Some fault
untaken_is world part entries unfounded fault = by (nat_le world.limits.entries entries) unfounded
  where
    by : (full : Bool) (c : Option Citation) → (if full then Some (refusals.JournalFull part) else refuse_unfounded c) ≡ Some (refusal_of fault)
        → (if full then Some (faults.JournalFull part) else option_map (λ (citation : Citation). faults.Unfounded citation.part citation.number) c) ≡ Some fault
    by true c is = ap (λ (f : AskFault). Some f) (same_fault (faults.JournalFull part) fault is)
    by false None is = absurd (let none : Path (Option Refusal) None (Some (refusal_of fault)) = is in cc)
    by false (Some citation) is = ap (λ (f : AskFault). Some f) (same_fault (faults.Unfounded citation.part citation.number) fault is)

-- the same at a server, which is there where it refuses for one of these causes, or for none
taken_there : (world : JournalsView) (server : ℕ) (journal : Option (List NodeEntry)) (unfounded : Option Citation) → refuse_at world server journal unfounded ≡ None
    → untaken_at world (parts.Server server) (length (unwrap_or journal [])) unfounded ≡ None
taken_there world server None unfounded is = absurd (let some : Path (Option Refusal) (Some refusals.NoSuchServer) None = is in cc)
taken_there world server (Some entries) unfounded is = taken_at world (parts.Server server) (length entries) unfounded is

no_fault : (fault : AskFault) → Path (Option Refusal) (Some refusals.NoSuchServer) (Some (refusal_of fault)) → ⊥
no_fault faults.Memory is = cc
no_fault fault is = cc

untaken_there : (world : JournalsView) (server : ℕ) (journal : Option (List NodeEntry)) (unfounded : Option Citation) (fault : AskFault) → refuse_at world server journal unfounded ≡ Some (refusal_of fault)
    → untaken_at world (parts.Server server) (length (unwrap_or journal [])) unfounded ≡ Some fault
untaken_there world server None unfounded fault is = absurd (no_fault fault is)
untaken_there world server (Some entries) unfounded fault is = untaken_is world (parts.Server server) (length entries) unfounded fault is

taken : (world : JournalsView) (step : Step) → refusal world step ≡ None → step_refusal world step ≡ None
taken world (steps.Node server ask) is = taken_there world server (item_at world.servers server) (unfounded_in_node_ask world ask) is
taken world (steps.Desk ask) is = taken_at world parts.Desk (length world.desk) (unfounded_in_desk_ask world ask) is
taken world (steps.View ask) is = taken_at world parts.View (length world.view) None is

faulted : (world : JournalsView) (step : Step) (fault : AskFault) → refusal world step ≡ Some (refusal_of fault) → step_refusal world step ≡ Some fault
faulted world (steps.Node server ask) fault is = untaken_there world server (item_at world.servers server) (unfounded_in_node_ask world ask) fault is
faulted world (steps.Desk ask) fault is = untaken_is world parts.Desk (length world.desk) (unfounded_in_desk_ask world ask) fault is
faulted world (steps.View ask) fault is = untaken_is world parts.View (length world.view) None fault is

-- an ask that was handed on is noted as one
pub handed_is : (told all : List Exchange) (server number : ℕ) (ask : NodeAsk) (handed : List NodeAsk) (answered : Told NodeReply)
    → all ≡ told ++ flat_map (λ ask. told_exchanges answered (exchanges.Node number ask answered)) handed → number ≡ server → handed ≡ ask ∷ [] → all ≡ told ++ told_exchanges answered (exchanges.Node server ask answered)
handed_is told all server number ask handed answered noted numbers one =
    noted ∙ (λ i. told ++ flat_map (λ ask. told_exchanges answered (exchanges.Node (numbers i) ask answered)) (one i))
    ∙ ap (λ last. told ++ last) (append-nil (told_exchanges answered (exchanges.Node server ask answered)))

-- ---- what was told stands

-- what stands is there after a step too
stays : (old new : JournalsView) (step : Step) → new ≡ world_after old step → (h : Exchange) → StandsIn old h → StandsIn new h
stays old new step is (exchanges.Node server ask (Ok told)) stands =
    ap (λ (w : JournalsView). server_entry w server told.number) is ∙ entry_stays old step server told.number (entry ask told.reply) stands
stays old new step is (exchanges.Node server ask (Err fault)) stands = tt
stays old new step is (exchanges.Desk ask (Ok told)) stands =
    ap (λ (w : JournalsView). item_at w.desk told.number) is ∙ desk_stays old step told.number (entry ask told.reply) stands
stays old new step is (exchanges.Desk ask (Err fault)) stands = tt
stays old new step is (exchanges.View ask answer) stands = tt

-- an answer of a server, as it was told
abbrev AnswerStands : JournalsView → NodeTold → Type 0
AnswerStands world told = server_entry world told.server told.number ≡ Some (entry told.ask told.reply)

answers_stand : (world : JournalsView) (told : List Exchange) → All (StandsIn world) told → All (AnswerStands world) (answers_in told)
answers_stand world [] all = All-nil (AnswerStands world)
answers_stand world (exchanges.Node server ask (Ok answered) ∷ told) all =
    let answer : NodeTold = record { server = server; number = answered.number; ask = ask; reply = answered.reply } in
    let h : Exchange = exchanges.Node server ask (Ok answered) in
    All-cons (AnswerStands world) answer (answers_in told) (All-head (StandsIn world) h told all) (answers_stand world told (All-tail (StandsIn world) h told all))
answers_stand world (exchanges.Node server ask (Err fault) ∷ told) all = answers_stand world told (All-tail (StandsIn world) (exchanges.Node server ask (Err fault)) told all)
answers_stand world (exchanges.Desk ask answer ∷ told) all = answers_stand world told (All-tail (StandsIn world) (exchanges.Desk ask answer) told all)
answers_stand world (exchanges.View ask answer ∷ told) all = answers_stand world told (All-tail (StandsIn world) (exchanges.View ask answer) told all)

all_has : {A : Type 0} (P : A → Type 0) (xs : List A) → All P xs → (x : A) → Has xs x → P x
all_has P [] all x has = absurd has
all_has P (y ∷ ys) all x (inl same) = subst P same (All-head P y ys all)
all_has P (y ∷ ys) all x (inr has) = all_has P ys (All-tail P y ys all) x has

-- so an ask of the desk that cites only what was told is founded
pub founded_by : (world : JournalsView) (told : List Exchange) (ask : DeskAsk) → All (StandsIn world) told → CitesOnly (answers_in told) ask → unfounded_in_desk_ask world ask ≡ None
founded_by world told (desk_asks.Commit txn ops votes) stand cites =
    let answers = answers_in told in
    let stands = answers_stand world told stand in
    commit-founded world txn ops votes
    (λ op has grant has_grant.
    let here = all_has (λ (g : Grant). Contains answers (grant_told txn op.file g)) op.grants (all_has (IsOpTold txn answers) ops cites.0 op has) grant has_grant in
    granted-founded world txn op.file grant (All-contains (AnswerStands world) answers (grant_told txn op.file grant) stands here))
    (λ vote has.
    let here = all_has (IsVoteTold txn answers) votes cites.1 vote has in
    voted-founded world txn vote here.0 (All-contains (AnswerStands world) answers (vote_told txn vote here.0) stands here.1))
founded_by world told desk_asks.Begin stand cites = refl
founded_by world told (desk_asks.Resolve txn) stand cites = refl

-- ---- what tells a verdict

tested_some : {A : Type 0} (b : Bool) (a v : A) → Path (Option A) (if b then Some a else None) (Some v) → (b ≡ true) × (a ≡ v)
tested_some true a v is = (refl, cc)
tested_some {A = A} false a v is = absurd (let none : Path (Option A) None (Some v) = is in cc)

tested_none : {A : Type 0} (b : Bool) (v : A) → Path (Option A) (if b then None else None) (Some v) → ⊥
tested_none true v is = cc
tested_none false v is = cc

gives : (txn : ℕ) (verdict : Verdict) (ask : DeskAsk) (reply : DeskReply) → verdict_by txn ask reply ≡ Some verdict → gives_verdict (entry ask reply) txn verdict
gives txn verdict (desk_asks.Commit asked ops votes) (desk_replies.Committed serial) is =
    let both = tested_some (asked == txn) (verdicts.Commit (cited_votes votes)) verdict is in
    inl (ops, votes, serial, ap (λ t. entry (desk_asks.Commit t ops votes) (desk_replies.Committed serial)) (eqb-true asked txn both.0), sym both.1)
gives txn verdict (desk_asks.Commit asked ops votes) (desk_replies.Refused (desk_refusals.Decided final)) is =
    let both = tested_some (asked == txn) final verdict is in
    inr (inr (ops, votes, λ i. entry (desk_asks.Commit (eqb-true asked txn both.0 i) ops votes) (desk_replies.Refused (desk_refusals.Decided (both.1 i)))))
gives txn verdict (desk_asks.Resolve asked) (desk_replies.Verdict final) is =
    let both = tested_some (asked == txn) final verdict is in inr (inl (λ i. entry (desk_asks.Resolve (eqb-true asked txn both.0 i)) (desk_replies.Verdict (both.1 i))))
gives txn verdict (desk_asks.Commit asked ops votes) reply is = absurd (tested_none (asked == txn) verdict is)
gives txn verdict (desk_asks.Resolve asked) reply is = absurd (tested_none (asked == txn) verdict is)
gives txn verdict desk_asks.Begin reply is = absurd (let none : Path (Option Verdict) None (Some verdict) = is in cc)

-- so an ask that tells a verdict which the desk told is founded
pub verdict_by_told : (world : JournalsView) (told : List Exchange) (ask : NodeAsk) → All (StandsIn world) told → IsVerdictTold told ask → unfounded_in_node_ask world ask ≡ None
verdict_by_told world told ask stand is =
    let ended = is.0 in
    let told_by = is.2 in
    let e = entry told_by.0 told_by.1 in
    let there = All-contains (StandsIn world) told (exchanges.Desk told_by.0 (Ok (record { number = ended.cite; reply = told_by.1 }))) stand told_by.3 in
    ap (unfounded_in_node_ask world) is.1 ∙ verdict-founded world ended.txn ended.verdict ended.cite e there (gives ended.txn ended.verdict told_by.0 told_by.1 told_by.2)

-- what was told last stands
all_last : (P : Exchange → Type 0) (told : List Exchange) (last : Exchange) → All P (told ++ last ∷ []) → P last
all_last P [] last all = All-head P last [] all
all_last P (h ∷ told) last all = all_last P told last (All-tail P h (told ++ last ∷ []) all)

pub answer_stands : (server : ℕ) (ask : NodeAsk) (told : Answered NodeReply) (old new : RecorderView) → IsReplayed new → new.told ≡ old.told ++ exchanges.Node server ask (Ok told) ∷ []
    → server_entry new.journals server told.number ≡ Some (entry ask told.reply)
answer_stands server ask told old new replayed grew =
    all_last (StandsIn new.journals) old.told (exchanges.Node server ask (Ok told)) (subst (λ (all : List Exchange). All (StandsIn new.journals) all) grew replayed.stands)

-- where nothing was asked yet, nothing was told
pub begun : (world : JournalsView) (told : List Exchange) → told ≡ mark_of world ∷ [] → IsReplayed (record { journals = world; told = told })
begun world told is =
    record {
      start = world;
      since = [];
      told_is = is;
      replays = refl;
      stands = subst (λ (t : List Exchange). All (StandsIn world) t) (sym is) (All-cons (StandsIn world) (mark_of world) [] tt (All-nil (StandsIn world)));
    }

-- ---- what a recorder keeps of a step

-- the recorder after a step: what it was told leads to its journals
pub record IsAsked (old new : JournalsView) (told : List Exchange) : Type 0 where
  pub kept : IsReplayed (record { journals = new; told = told })
  pub tree : new.levels ≡ old.levels

module _ (old new : JournalsView) (told : List Exchange) (kept : IsReplayed (record { journals = old; told = told })) where
  asked : (h : Exchange) → new ≡ world_after old (step_of h) → Matches old h → StandsIn new h → IsAsked old new (told ++ h ∷ [])
  asked h is matches entered =
      let all : Replays kept.start (kept.since ++ h ∷ []) (world_after old (step_of h)) = replays_push kept.since h kept.start old kept.replays matches in
      record {
        kept = record {
          start = kept.start;
          since = kept.since ++ h ∷ [];
          told_is = ap (λ t. t ++ h ∷ []) kept.told_is;
          replays = subst (λ (w : JournalsView). Replays kept.start (kept.since ++ h ∷ []) w) (sym is) all;
          stands = All-push (StandsIn new) told h (All-weaker (StandsIn old) (StandsIn new) (stays old new (step_of h) is) told kept.stands) entered;
        };
        tree = ap (λ (w : JournalsView). w.levels) is ∙ levels_after old (step_of h);
      }

  -- an ask that was not taken
  unasked : (step : Step) (fault : AskFault) (h : Exchange) → step_of h ≡ step → (step_refusal old step ≡ Some fault → Matches old h) → StandsIn new h → IsTold old step (Err (refusal_of fault)) → new ≡ old
      → IsAsked old new (told ++ unless_memory fault h)
  unasked step faults.Memory h steps_are matches stands answered same =
      subst (λ (w : JournalsView). IsAsked old w (told ++ [])) (sym same) (subst (λ (t : List Exchange). IsAsked old old t) (sym (append-nil told)) (record { kept = kept; tree = refl }))
  unasked step fault h steps_are matches stands answered same =
      let refuses = told_err (refusal old step) (answer old step) (refusal_of fault) answered in
      asked h (same ∙ sym (ap (λ (r : Option Refusal). state_at r old (world_with_step old step)) refuses) ∙ ap (λ (s : Step). world_after old s) (sym steps_are)) (matches (faulted old step fault refuses)) stands

  pub asked_node : (server : ℕ) (ask : NodeAsk) (answered : Told NodeReply) → IsTold old (steps.Node server ask) (told_step replies.Node answered)
      → OnOk answered (new ≡ world_after old (steps.Node server ask)) → OnErr answered (new ≡ old) → IsAsked old new (told ++ told_exchanges answered (exchanges.Node server ask answered))
  asked_node server ask (Ok taken_as) is after same =
      let ok = told_ok (refusal old (steps.Node server ask)) (answer old (steps.Node server ask)) _ is in
      let number : taken_as.number ≡ suc (length (server_journal old server)) = ap (λ (a : Answer). a.number) ok.1 in
      let reply : taken_as.reply ≡ (node_entry old server ask).reply = (let alike = ap (λ (a : Answer). a.reply) ok.1 in cc) in
      asked (exchanges.Node server ask (Ok taken_as)) after
      ((λ i. Ok (record { number = number i; reply = reply i }))
      ∙ sym (ap (λ (f : Option AskFault). told_by f (suc (length (server_journal old server))) (node_entry old server ask).reply) (taken old (steps.Node server ask) ok.0)))
      ((λ i. server_entry (after i) server (number i)) ∙ entry_new old server ask ok.0 ∙ ap (λ (r : NodeReply). Some (entry ask r)) (sym reply))
  asked_node server ask (Err fault) is after same =
      unasked (steps.Node server ask) fault (exchanges.Node server ask (Err fault)) refl
      (λ not. sym (ap (λ (f : Option AskFault). told_by f (suc (length (server_journal old server))) (node_entry old server ask).reply) not)) tt is same

  -- what is noted of an ask by a copy of it is replayed
  pub noted_node : (server number : ℕ) (ask copy : NodeAsk) (answered : Told NodeReply) (all : List Exchange) → IsTold old (steps.Node server ask) (told_step replies.Node answered)
      → OnOk answered (new ≡ world_after old (steps.Node server ask)) → OnErr answered (new ≡ old)
      → all ≡ told ++ told_exchanges answered (exchanges.Node number copy answered) → number ≡ server → copy ≡ ask → IsReplayed (record { journals = new; told = all })
  noted_node server number ask copy answered all is after same noted numbers copies =
      subst (λ (t : List Exchange). IsReplayed (record { journals = new; told = t }))
      (sym (noted ∙ (λ i. told ++ told_exchanges answered (exchanges.Node (numbers i) (copies i) answered)))) (asked_node server ask answered is after same).kept

  pub asked_desk : (ask : DeskAsk) (answered : Told DeskReply) → IsTold old (steps.Desk ask) (told_step replies.Desk answered)
      → OnOk answered (new ≡ world_after old (steps.Desk ask)) → OnErr answered (new ≡ old) → IsAsked old new (told ++ told_exchanges answered (exchanges.Desk ask answered))
  asked_desk ask (Ok taken_as) is after same =
      let ok = told_ok (refusal old (steps.Desk ask)) (answer old (steps.Desk ask)) _ is in
      let number : taken_as.number ≡ suc (length old.desk) = ap (λ (a : Answer). a.number) ok.1 in
      let reply : taken_as.reply ≡ (desk_entry old ask).reply = (let alike = ap (λ (a : Answer). a.reply) ok.1 in cc) in
      asked (exchanges.Desk ask (Ok taken_as)) after
      ((λ i. Ok (record { number = number i; reply = reply i }))
      ∙ sym (ap (λ (f : Option AskFault). told_by f (suc (length old.desk)) (desk_entry old ask).reply) (taken old (steps.Desk ask) ok.0)))
      ((λ i. item_at (after i).desk (number i)) ∙ desk_new old ask ok.0 ∙ ap (λ (r : DeskReply). Some (entry ask r)) (sym reply))
  asked_desk ask (Err fault) is after same =
      unasked (steps.Desk ask) fault (exchanges.Desk ask (Err fault)) refl
      (λ not. sym (ap (λ (f : Option AskFault). told_by f (suc (length old.desk)) (desk_entry old ask).reply) not)) tt is same

  pub asked_view : (ask : ViewAsk) (answered : Told ViewReply) → IsTold old (steps.View ask) (told_step replies.View answered)
      → OnOk answered (new ≡ world_after old (steps.View ask)) → OnErr answered (new ≡ old) → IsAsked old new (told ++ told_exchanges answered (exchanges.View ask answered))
  asked_view ask (Ok taken_as) is after same =
      let ok = told_ok (refusal old (steps.View ask)) (answer old (steps.View ask)) _ is in
      let number : taken_as.number ≡ suc (length old.view) = ap (λ (a : Answer). a.number) ok.1 in
      let reply : taken_as.reply ≡ (view_entry old ask).reply = (let alike = ap (λ (a : Answer). a.reply) ok.1 in cc) in
      asked (exchanges.View ask (Ok taken_as)) after
      ((λ i. Ok (record { number = number i; reply = reply i }))
      ∙ sym (ap (λ (f : Option AskFault). told_by f (suc (length old.view)) (view_entry old ask).reply) (taken old (steps.View ask) ok.0)))
      tt
  asked_view ask (Err fault) is after same =
      unasked (steps.View ask) fault (exchanges.View ask (Err fault)) refl
      (λ not. sym (ap (λ (f : Option AskFault). told_by f (suc (length old.view)) (view_entry old ask).reply) not)) tt is same
