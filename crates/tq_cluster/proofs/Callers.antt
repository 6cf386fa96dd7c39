-- What a caller is told of one ask more is told by a part; and what all callers were told. The callers of a run: one
-- more of them, and all of them turned round. What callers were told where memory may have been refused: the first of
-- what they were to ask.
use Rattle.std.proofs.Common.{◌≡◌, ◌⊎◌, ◌<◌, ◌≤◌, ◌+◌, ℕ, zero, suc, List, [], ◌∷◌, ◌++◌, get_or, length, take, Result, Ok, Err, inl, inr, refl, sym, subst, append-nil, arith, ◌-◌, ◌∙◌, ap, append_assoc, length-append, drop, Bool, true, false}
use Rattle.std.proofs.lemmas.{List.{take_all, reverse-append, length-reverse}, Bool.false≢true}
use Rattle.std.specs.{Prelude.{IfOk, IfErr, Option, Some, None, MatchOption, reverse, IfSome, is_err}, Result.result_ok}
use Rattle.std.specs.List.{AllByRecursion}
use Rattle.tq_shape.specs.{Limits.LimitsView, declared.part.Part.Part, declared.fault.AskFault.AskFault}
use Rattle.tq_shape.specs.declared.part.Part.TheVariants as parts
use Rattle.tq_shape.specs.declared.fault.AskFault.TheVariants as faults
use Rattle.tq_asks.specs.declared.ask.{NodeAsk.NodeAsk, NodeReply.NodeReply}
use Rattle.tq_desk.specs.declared.ask.{DeskAsk.DeskAsk, DeskReply.DeskReply}
use Rattle.tq_live.specs.declared.view.{ViewAsk.ViewAsk, ViewReply.ViewReply}
use Rattle.tq_txn.specs.{declared.asker.Exchange.Exchange, Script.script_asked}
use Rattle.tq_txn.specs.Dialogue.{Told, unless_memory, Makes, Dialogue, Ends, AsksNode, AsksDesk, AsksView, Begins, Follows}
use Rattle.tq_txn.specs.declared.asker.Exchange.TheVariants as exchanges
use Rattle.tq_cluster.specs.declared.{asked.Numbered.Numbered, workers.Message.Message}
use Rattle.tq_cluster.specs.Told.{AreOfParts, IsOfPart, IsToldByServer, IsToldByDesk, IsToldByView, exchanges_of, CallerView}
use Rattle.tq_cluster.specs.Clients.{RunsScript, JobsMake, Refreshes, AllRan, if_made, AllBegan, BeginsJobs, BeginsScript, JobsBegin, jobs_in, Works, AllWork, WorkBackwards, RunBackwards, BeganBackwards, IsClient}
use Rattle.tq_syntax.specs.declared.script.Line.{Line}
use Rattle.tq_refresh.specs.{declared.job.Job.Job, Plan.{refresh_asked, Grows, IsBegun}}
use Rattle.tq_cluster.specs.declared.workers.Message.TheVariants as messages

-- all of these, and one more
pub all_and : {A : Type 0} (P : A → Type 0) (xs : List A) (x : A) → AllByRecursion P xs → P x → AllByRecursion P (xs ++ x ∷ [])
all_and P [] x all one = (one, tt)
all_and P (y ∷ xs) x all one = (all.0, all_and P xs x all.1 one)

-- an ask of a part adds what that part told; nothing where memory was refused
told_more : {A R : Type 0} (levels : ℕ) (IsTold : ℕ → A → R → Type 0) (part : Part) (exchange : A → Told R → Exchange)
    → ((number : ℕ) (ask : A) (reply : R) → IsTold number ask reply → IsOfPart levels (exchange ask (Ok (record { number = number; reply = reply })))) → ((ask : A) → IsOfPart levels (exchange ask (Err (faults.JournalFull part))))
    → (told : List Exchange) (ask : A) (result : Result (Numbered A R) AskFault) → AreOfParts levels told → IfOk result (λ t. t.ask ≡ ask) → IfOk result (λ t. IsTold t.number t.ask t.reply)
    → IfErr result (λ f. (f ≡ faults.Memory) ⊎ (f ≡ faults.JournalFull part)) → AreOfParts levels (told ++ exchanges_of exchange ask result)
told_more levels IsTold part exchange taken full told ask (Ok t) all same is why =
    all_and (IsOfPart levels) told (exchange ask (Ok (record { number = t.number; reply = t.reply }))) all (taken t.number ask t.reply (subst (λ a. IsTold t.number a t.reply) same is))
told_more levels IsTold part exchange taken full told ask (Err f) all same is (inl none) =
    subst (λ (e : AskFault). AreOfParts levels (told ++ unless_memory e (exchange ask (Err e)))) (sym none) (subst (AreOfParts levels) (sym (append-nil told)) all)
told_more levels IsTold part exchange taken full told ask (Err f) all same is (inr is_full) =
    subst (λ (e : AskFault). AreOfParts levels (told ++ unless_memory e (exchange ask (Err e)))) (sym is_full) (all_and (IsOfPart levels) told (exchange ask (Err (faults.JournalFull part))) all (full ask))

pub server_told : (levels server : ℕ) (told : List Exchange) (ask : NodeAsk) (result : Result (Numbered NodeAsk NodeReply) AskFault) → AreOfParts levels told → IfOk result (λ t. t.ask ≡ ask)
    → IfOk result (λ t. IsToldByServer levels server t.number t.ask t.reply) → IfErr result (λ f. (f ≡ faults.Memory) ⊎ (f ≡ faults.JournalFull (parts.Server server)))
    → AreOfParts levels (told ++ exchanges_of (λ ask answer. exchanges.Node server ask answer) ask result)
server_told levels server = told_more levels (IsToldByServer levels server) (parts.Server server) (λ ask answer. exchanges.Node server ask answer) (λ number ask reply is. is) (λ ask. refl)

pub desk_told : (levels : ℕ) (limits : LimitsView) (told : List Exchange) (ask : DeskAsk) (result : Result (Numbered DeskAsk DeskReply) AskFault) → AreOfParts levels told → IfOk result (λ t. t.ask ≡ ask)
    → IfOk result (λ t. IsToldByDesk levels limits t.number t.ask t.reply) → IfErr result (λ f. (f ≡ faults.Memory) ⊎ (f ≡ faults.JournalFull parts.Desk))
    → AreOfParts levels (told ++ exchanges_of (λ ask answer. exchanges.Desk ask answer) ask result)
desk_told levels limits = told_more levels (IsToldByDesk levels limits) parts.Desk (λ ask answer. exchanges.Desk ask answer) (λ number ask reply is. (limits, is)) (λ ask. refl)

pub view_told : (levels : ℕ) (told : List Exchange) (ask : ViewAsk) (result : Result (Numbered ViewAsk ViewReply) AskFault) → AreOfParts levels told → IfOk result (λ t. t.ask ≡ ask)
    → IfOk result (λ t. IsToldByView levels t.number t.ask t.reply) → IfErr result (λ f. (f ≡ faults.Memory) ⊎ (f ≡ faults.JournalFull parts.View))
    → AreOfParts levels (told ++ exchanges_of (λ ask answer. exchanges.View ask answer) ask result)
view_told levels = told_more levels (IsToldByView levels) parts.View (λ ask answer. exchanges.View ask answer) (λ number ask reply is. is) (λ ask. refl)

-- ---- of each of a list

next : {A : Type 0} (P : A → Type 0) (xs : List A) (i : ℕ) (x : A) → i < length xs → x ≡ get_or xs i x → AllByRecursion P (take i xs) → P x → AllByRecursion P (take (suc i) xs)
next P [] i x less is all one = absurd (omega (arith, less))
next P (y ∷ xs) zero x less is all one = (subst P is one, tt)
next P (y ∷ xs) (suc i) x less is all one = (all.0, next P xs i x (omega (arith, less)) is all.1 one)

-- one more of the list
pub all_next : {A : Type 0} (P : A → Type 0) (xs : List A) (i : ℕ) (x : A) → i < length xs → x ≡ get_or xs i x → AllByRecursion P (take i xs) → P x → AllByRecursion P (take (i + 1) xs)
all_next P xs i x less is all one =
    let more : suc i ≡ i + 1 = omega arith in
    subst (λ (n : ℕ). AllByRecursion P (take n xs)) more (next P xs i x less is all one)

-- all of it
pub all_done : {A : Type 0} (P : A → Type 0) (xs : List A) (i : ℕ) → length xs ≤ i → AllByRecursion P (take i xs) → AllByRecursion P xs
all_done P xs i end all = subst (AllByRecursion P) (take_all i xs end) all

-- ---- callers

-- ---- messages

pub job_more : (taken : List (ℕ × Message)) (place : ℕ) (job : Job) → jobs_in (taken ++ (place, messages.Job job) ∷ []) ≡ jobs_in taken ++ job ∷ []
job_more [] place job = refl
job_more ((p, messages.Job j) ∷ taken) place job = ap (λ (l : List Job). j ∷ l) (job_more taken place job)
job_more ((p, messages.Stop) ∷ taken) place job = job_more taken place job

pub stop_more : (taken : List (ℕ × Message)) (place : ℕ) → jobs_in (taken ++ (place, messages.Stop) ∷ []) ≡ jobs_in taken
stop_more [] place = refl
stop_more ((p, messages.Job j) ∷ taken) place = ap (λ (l : List Job). j ∷ l) (stop_more taken place)
stop_more ((p, messages.Stop) ∷ taken) place = stop_more taken place

-- ---- what a worker was told

made_more : (levels : ℕ) (jobs : List Job) (job : Job) (told mine : List Exchange) → JobsMake levels jobs told → Makes (refresh_asked levels job) mine tt → JobsMake levels (jobs ++ job ∷ []) (told ++ mine)
made_more levels [] job told mine made asked = (mine, [], ap (λ t. t ++ mine) made ∙ sym (append-nil mine), asked, refl)
made_more levels (j ∷ jobs) job told mine made asked =
    (made.0, made.1 ++ mine, ap (λ t. t ++ mine) made.2 ∙ append_assoc made.0 made.1 mine, made.3, made_more levels jobs job made.1 mine made.4 asked)

-- one job more
pub jobs_make_more : (levels : ℕ) (jobs after : List Job) (job : Job) (old new : List Exchange) → JobsMake levels jobs old → after ≡ jobs ++ job ∷ [] → Grows (refresh_asked levels job) old new → JobsMake levels after new
jobs_make_more levels jobs after job old new made is grows =
    subst (λ (l : List Job). JobsMake levels l new) (sym is)
    (subst (λ (t : List Exchange). JobsMake levels (jobs ++ job ∷ []) t) (sym grows.1) (made_more levels jobs job old grows.0 made grows.2))

-- ---- one worker more

-- what is joined to what was there
pub joined : {A : Type 0} (there before now more last after : List A) → before ≡ there → now ≡ before ++ more → after ≡ now ++ last → after ≡ there ++ (more ++ last)
joined {A} there before now more last after same grew is =
    is ∙ ap (λ (l : List A). l ++ last) (grew ∙ ap (λ (l : List A). l ++ more) same) ∙ append_assoc there more last

all_work_more : (levels : ℕ) (taken mine : List (ℕ × Message)) (cs : List CallerView) (c : CallerView) → AllWork levels taken cs → Works levels mine c → AllWork levels (taken ++ mine) (cs ++ c ∷ [])
all_work_more levels taken mine [] c work works = (mine, [], ap (λ t. t ++ mine) work ∙ sym (append-nil mine), works, refl)
all_work_more levels taken mine (d ∷ cs) c work works =
    (work.0, work.1 ++ mine, ap (λ t. t ++ mine) work.2 ∙ append_assoc work.0 work.1 mine, work.3, all_work_more levels work.1 mine cs c work.4 works)

pub one_worker_more : (levels fewer workers : ℕ) (taken mine : List (ℕ × Message)) (more : List CallerView) (c : CallerView) → workers ≡ fewer + 1
    → WorkBackwards levels fewer taken more → Works levels mine c → WorkBackwards levels workers (taken ++ mine) (more ++ c ∷ [])
one_worker_more levels fewer workers taken mine more c is work works = (
  work.0,
  work.1 ++ c ∷ [],
  ap (λ l. l ++ c ∷ []) work.2,
  work.3,
  let sum = length-append work.1 (c ∷ []) in omega (arith, is, work.4, sum),
  all_work_more levels taken mine work.1 c work.5 works,
)

-- ---- one script more

-- the script that is run first, before all others
pub one_script_more : (levels there : ℕ) (limits bounds : LimitsView) (scripts : List (List Line)) (named : List Line) (workers : ℕ) (taken : List (ℕ × Message)) (front : List CallerView) (c : CallerView) → 1 ≤ length scripts
    → named ≡ get_or scripts 0 named → there ≡ levels → bounds ≡ limits
    → RunBackwards levels limits (take (length scripts - 1) (drop 1 scripts)) workers taken front → RunsScript there bounds named c → RunBackwards levels limits scripts workers taken (front ++ c ∷ [])
one_script_more levels there limits bounds [] named workers taken front c some is tree within ran run = absurd (omega arith)
one_script_more levels there limits bounds (s ∷ ss) named workers taken front c some is tree within ran run =
    let in_tree = subst (λ (n : ℕ). RunsScript n bounds named c) tree run in
    let within_limits = subst (λ (l : LimitsView). RunsScript levels l named c) within in_tree in (
      front,
      c,
      refl,
      subst (λ (l : List (List Line)). RunBackwards levels limits l workers taken front) (take_all (length (s ∷ ss) - 1) ss (omega arith)) ran,
      subst (λ (l : List Line). RunsScript levels limits l c) is within_limits,
    )

-- what came of its thread
pub one_client_more : (levels there : ℕ) (limits bounds : LimitsView) (scripts : List (List Line)) (named : List Line) (workers : ℕ) (taken : List (ℕ × Message)) (front : List CallerView) (made : Option CallerView) → 1 ≤ length scripts
    → named ≡ get_or scripts 0 named → there ≡ levels → bounds ≡ limits
    → RunBackwards levels limits (take (length scripts - 1) (drop 1 scripts)) workers taken front → MatchOption made ⊥ (RunsScript there bounds named) → RunBackwards levels limits scripts workers taken (front ++ if_made made)
one_client_more levels there limits bounds scripts named workers taken front None some is tree within ran run = absurd run
one_client_more levels there limits bounds scripts named workers taken front (Some c) some is tree within ran run =
    one_script_more levels there limits bounds scripts named workers taken front c some is tree within ran run

-- ---- turned round

all_refresh : (levels : ℕ) (taken : List (ℕ × Message)) (cs : List CallerView) → AllWork levels taken cs → AllByRecursion (Refreshes levels) cs
all_refresh levels taken [] work = tt
all_refresh levels taken (c ∷ cs) work = ((jobs_in work.0, work.3), all_refresh levels work.1 cs work.4)

pub all_turned : (P : CallerView → Type 0) (cs : List CallerView) → AllByRecursion P cs → AllByRecursion P (reverse cs)
all_turned P [] all = tt
all_turned P (c ∷ cs) all = subst (AllByRecursion P) (sym (reverse-append (c ∷ []) cs)) (all_and P (reverse cs) c (all_turned P cs all.1) all.0)

workers_turned : (levels : ℕ) (limits : LimitsView) (workers : ℕ) (taken : List (ℕ × Message)) (cs : List CallerView) → WorkBackwards levels workers taken cs → AllRan levels limits [] workers (reverse cs)
workers_turned levels limits workers taken cs work = (
  reverse work.1,
  work.0,
  ap reverse work.2 ∙ reverse-append (work.0 ∷ []) work.1,
  length-reverse work.1 ∙ work.4,
  all_turned (Refreshes levels) work.1 (all_refresh levels taken work.1 work.5),
  work.3,
)

-- the callers in the order of the run
pub run_in_order : (levels : ℕ) (limits : LimitsView) (ss : List (List Line)) (workers : ℕ) (taken : List (ℕ × Message)) (cs : List CallerView) → RunBackwards levels limits ss workers taken cs
    → AllRan levels limits ss workers (reverse cs)
run_in_order levels limits [] workers taken cs ran = workers_turned levels limits workers taken cs ran
run_in_order levels limits (s ∷ ss) workers taken cs ran =
    (ran.1, reverse ran.0, ap reverse ran.2 ∙ reverse-append ran.0 (ran.1 ∷ []), ran.4, run_in_order levels limits ss workers taken ran.0 ran.3)

-- ---- begun

-- who asked all asked the first of it
makes-begins : {A : Type 0} (line : Dialogue A) (told : List Exchange) (end : A) → Makes line told end → Begins line told
makes-begins (Ends a) told end makes = makes.0
makes-begins (AsksNode server ask next) told end makes = inr (makes.0, makes.1, makes.2, makes-begins (next makes.0) makes.1 end makes.3)
makes-begins (AsksDesk ask next) told end makes = inr (makes.0, makes.1, makes.2, makes-begins (next makes.0) makes.1 end makes.3)
makes-begins (AsksView ask next) told end makes = inr (makes.0, makes.1, makes.2, makes-begins (next makes.0) makes.1 end makes.3)

-- by one who was told nothing before
pub follows-begins : {A : Type 0} (line : Dialogue A) (old new : List Exchange) (end : Option A) → old ≡ [] → Follows line old new end → Begins line new
follows-begins line old new (Some end) none follows =
    subst (Begins line) (sym (follows.1 ∙ ap (λ (told : List Exchange). told ++ follows.0) none)) (makes-begins line follows.0 end follows.2)
follows-begins line old new None none follows = subst (Begins line) (sym (follows.1 ∙ ap (λ (told : List Exchange). told ++ follows.0) none)) follows.2

-- the caller of a script, which was told nothing before
pub client_told : {E : Type 0} (levels : ℕ) (limits : LimitsView) (script : List Line) (old : List Exchange) (caller : CallerView) (ended : Result (Unit {0}) E) (memory : Bool) → memory ≡ is_err ended → old ≡ []
    → Follows (script_asked levels limits script None) old caller.told (result_ok ended) → IsClient levels limits script memory (Some caller)
client_told levels limits script old caller (Ok end) memory refused none follows =
    let line = script_asked levels limits script None in
    let told : caller.told ≡ follows.0 = follows.1 ∙ ap (λ (t : List Exchange). t ++ follows.0) none in
    record {
      ran = λ fine. subst (λ (t : List Exchange). Makes line t tt) (sym told) follows.2;
      began = follows-begins line old caller.told (Some end) none follows;
    }
client_told levels limits script old caller (Err e) memory refused none follows =
    record {
      ran = λ fine. absurd (false≢true (sym fine ∙ refused));
      began = follows-begins (script_asked levels limits script None) old caller.told None none follows;
    }

-- ---- jobs

-- whether memory was refused to a job or not, its asks were begun
pub job_begun : (levels : ℕ) (job : Job) (old new : List Exchange) (refused : Bool) → (refused ≡ false → Grows (refresh_asked levels job) old new) → (refused ≡ true → IsBegun (refresh_asked levels job) old new) → IsBegun (refresh_asked levels job) old new
job_begun levels job old new true asked begun = begun refl
job_begun levels job old new false asked begun = let all = asked refl in (all.0, all.1, makes-begins (refresh_asked levels job) all.0 tt all.2)

begun_more : (levels : ℕ) (jobs : List Job) (job : Job) (told mine : List Exchange) → JobsBegin levels jobs told → Begins (refresh_asked levels job) mine → JobsBegin levels (jobs ++ job ∷ []) (told ++ mine)
begun_more levels [] job told mine begun asked = (mine, [], ap (λ t. t ++ mine) begun ∙ sym (append-nil mine), asked, refl)
begun_more levels (j ∷ jobs) job told mine begun asked =
    (begun.0, begun.1 ++ mine, ap (λ t. t ++ mine) begun.2 ∙ append_assoc begun.0 begun.1 mine, begun.3, begun_more levels jobs job begun.1 mine begun.4 asked)

-- one job more
pub jobs_begin_more : (levels : ℕ) (jobs after : List Job) (job : Job) (old new : List Exchange) → JobsBegin levels jobs old → after ≡ jobs ++ job ∷ [] → IsBegun (refresh_asked levels job) old new → JobsBegin levels after new
jobs_begin_more levels jobs after job old new begun is more =
    subst (λ (l : List Job). JobsBegin levels l new) (sym is)
    (subst (λ (t : List Exchange). JobsBegin levels (jobs ++ job ∷ []) t) (sym more.1) (begun_more levels jobs job old more.0 begun more.2))

-- ---- the callers of a run

-- none was made
pub none_began : (levels : ℕ) (limits : LimitsView) (ss : List (List Line)) → BeganBackwards levels limits ss []
none_began levels limits [] = tt
none_began levels limits (s ∷ ss) = ([], None, refl, none_began levels limits ss, tt)

pub none_in_order : (levels : ℕ) (limits : LimitsView) (ss : List (List Line)) → AllBegan levels limits ss []
none_in_order levels limits [] = tt
none_in_order levels limits (s ∷ ss) = (None, [], refl, tt, none_in_order levels limits ss)

-- the script that is run first, before all others
pub one_began_more : (levels there : ℕ) (limits bounds : LimitsView) (scripts : List (List Line)) (named : List Line) (front : List CallerView) (made : Option CallerView) → 1 ≤ length scripts
    → named ≡ get_or scripts 0 named → there ≡ levels → bounds ≡ limits
    → BeganBackwards levels limits (take (length scripts - 1) (drop 1 scripts)) front → IfSome made (BeginsScript there bounds named) → BeganBackwards levels limits scripts (front ++ if_made made)
one_began_more levels there limits bounds [] named front made some is tree within began mine = absurd (omega arith)
one_began_more levels there limits bounds (s ∷ ss) named front made some is tree within began mine =
    let in_tree = subst (λ (n : ℕ). IfSome made (BeginsScript n bounds named)) tree mine in
    let within_limits = subst (λ (l : LimitsView). IfSome made (BeginsScript levels l named)) within in_tree in (
      front,
      made,
      refl,
      subst (λ (l : List (List Line)). BeganBackwards levels limits l front) (take_all (length (s ∷ ss) - 1) ss (omega arith)) began,
      subst (λ (l : List Line). IfSome made (BeginsScript levels limits l)) is within_limits,
    )

made_turned : (made : Option CallerView) → reverse (if_made made) ≡ if_made made
made_turned None = refl
made_turned (Some c) = refl

-- the callers in the order of the run
pub began_in_order : (levels : ℕ) (limits : LimitsView) (ss : List (List Line)) (cs : List CallerView) → BeganBackwards levels limits ss cs → AllBegan levels limits ss (reverse cs)
began_in_order levels limits [] cs began = all_turned (BeginsJobs levels) cs began
began_in_order levels limits (s ∷ ss) cs began = (
  began.1,
  reverse began.0,
  ap reverse began.2 ∙ reverse-append began.0 (if_made began.1) ∙ ap (λ l. l ++ reverse began.0) (made_turned began.1),
  began.4,
  began_in_order levels limits ss began.0 began.3,
)
