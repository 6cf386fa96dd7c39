-- What the callers of a run were told: those of clients, of workers, and the one that pulls the board. The callers of
-- a run as their threads are joined: the one that was started last comes first.
use Rattle.std.specs.Prelude.{◌≡◌, ℕ, List, [], ◌∷◌, ◌++◌, Option, Some, None, IfSome, length, Bool, false, MatchOption}
use Rattle.std.specs.List.{AllByRecursion}
use Rattle.tq_txn.specs.{Dialogue.{Makes, Begins}, declared.asker.Exchange.Exchange, Script.script_asked}
use Rattle.tq_syntax.specs.declared.script.Line.{Line}
use Rattle.tq_shape.specs.Limits.{LimitsView}
use Rattle.tq_refresh.specs.{declared.job.Job.Job, Plan.refresh_asked}
use Rattle.tq_cluster.specs.{Told.CallerView, declared.workers.Message.Message}
use Rattle.tq_cluster.specs.declared.workers.Message.TheVariants as messages

-- the caller was told what the lines of the script ask, each as the answers before demand
abbrev pub RunsScript : ℕ → LimitsView → List Line → CallerView → Type 0
RunsScript levels limits script caller = Makes (script_asked levels limits script None) caller.told tt

-- these are the asks of the jobs, one after another: each asks its source for its copy and, exactly where that is told, its
-- server to take it, citing the source's entry
abbrev pub JobsMake : ℕ → List Job → List Exchange → Type 0
JobsMake levels [] told = told ≡ []
JobsMake levels (job ∷ jobs) told = (mine : List Exchange) × (rest : List Exchange) × (told ≡ mine ++ rest) × Makes (refresh_asked levels job) mine tt × JobsMake levels jobs rest

-- the caller was told what some jobs ask
abbrev pub Refreshes : ℕ → CallerView → Type 0
Refreshes levels caller = (jobs : List Job) × JobsMake levels jobs caller.told

-- for each script, in their order, a caller that ran it; then so many that refreshed; then one that asked nothing
abbrev pub AllRan : ℕ → LimitsView → List (List Line) → ℕ → List CallerView → Type 0
AllRan levels limits [] workers callers = (refreshers : List CallerView) × (own : CallerView) × (callers ≡ refreshers ++ own ∷ []) × (length refreshers ≡ workers) × AllByRecursion (Refreshes levels) refreshers × (own.told ≡ [])
AllRan levels limits (s ∷ ss) workers callers = (c : CallerView) × (rest : List CallerView) × (callers ≡ c ∷ rest) × RunsScript levels limits s c × AllRan levels limits ss workers rest

-- ---- where memory may have been refused

-- the caller was told the first of what the lines of the script ask
abbrev pub BeginsScript : ℕ → LimitsView → List Line → CallerView → Type 0
BeginsScript levels limits script caller = Begins (script_asked levels limits script None) caller.told

-- of the asks of each job these are the first, one job after another
abbrev pub JobsBegin : ℕ → List Job → List Exchange → Type 0
JobsBegin levels [] told = told ≡ []
JobsBegin levels (job ∷ jobs) told = (mine : List Exchange) × (rest : List Exchange) × (told ≡ mine ++ rest) × Begins (refresh_asked levels job) mine × JobsBegin levels jobs rest

-- the caller was told the first of what some jobs ask
abbrev pub BeginsJobs : ℕ → CallerView → Type 0
BeginsJobs levels caller = (jobs : List Job) × JobsBegin levels jobs caller.told

-- the one, if it was made
abbrev pub if_made : {A : Type 0} → Option A → List A
if_made None = []
if_made (Some a) = a ∷ []

-- the callers that were made: for each script, in their order, one that began it; then those that began jobs
abbrev pub AllBegan : ℕ → LimitsView → List (List Line) → List CallerView → Type 0
AllBegan levels limits [] callers = AllByRecursion (BeginsJobs levels) callers
AllBegan levels limits (s ∷ ss) callers = (own : Option CallerView) × (rest : List CallerView) × (callers ≡ if_made own ++ rest) × IfSome own (BeginsScript levels limits s) × AllBegan levels limits ss rest

-- ---- backwards

-- the jobs among messages, each of which was taken at its place
abbrev pub jobs_in : List (ℕ × Message) → List Job
jobs_in [] = []
jobs_in ((place, messages.Job job) ∷ taken) = job ∷ jobs_in taken
jobs_in ((place, messages.Stop) ∷ taken) = jobs_in taken

-- the caller was told what the jobs ask that it took
abbrev pub Works : ℕ → List (ℕ × Message) → CallerView → Type 0
Works levels taken caller = JobsMake levels (jobs_in taken) caller.told

-- these messages were taken by these workers, one worker's after another's, and each was told what its jobs ask
abbrev pub AllWork : ℕ → List (ℕ × Message) → List CallerView → Type 0
AllWork levels taken [] = taken ≡ []
AllWork levels taken (c ∷ cs) = (mine : List (ℕ × Message)) × (rest : List (ℕ × Message)) × (taken ≡ mine ++ rest) × Works levels mine c × AllWork levels rest cs

-- one that asked nothing, and then so many workers, who took these messages
abbrev pub WorkBackwards : ℕ → ℕ → List (ℕ × Message) → List CallerView → Type 0
WorkBackwards levels workers taken callers = (own : CallerView) × (front : List CallerView) × (callers ≡ own ∷ front) × (own.told ≡ []) × (length front ≡ workers) × AllWork levels taken front

-- and then for each script, the last one first, a caller that ran it
abbrev pub RunBackwards : ℕ → LimitsView → List (List Line) → ℕ → List (ℕ × Message) → List CallerView → Type 0
RunBackwards levels limits [] workers taken callers = WorkBackwards levels workers taken callers
RunBackwards levels limits (s ∷ ss) workers taken callers = (front : List CallerView) × (c : CallerView) × (callers ≡ front ++ c ∷ []) × RunBackwards levels limits ss workers taken front × RunsScript levels limits s c

-- ---- where memory may have been refused

-- what came of a script's thread: its caller, if one was made, began the script; unless memory was refused it ran it
pub record IsClient (levels : ℕ) (limits : LimitsView) (script : List Line) (memory : Bool) (caller : Option CallerView) : Type 0 where
  pub ran : memory ≡ false → MatchOption caller ⊥ (RunsScript levels limits script)
  pub began : IfSome caller (BeginsScript levels limits script)

-- callers that began jobs; and then for each script, the last one first, the caller that began it, if it was made
abbrev pub BeganBackwards : ℕ → LimitsView → List (List Line) → List CallerView → Type 0
BeganBackwards levels limits [] callers = AllByRecursion (BeginsJobs levels) callers
BeganBackwards levels limits (s ∷ ss) callers = (front : List CallerView) × (own : Option CallerView) × (callers ≡ front ++ if_made own) × BeganBackwards levels limits ss front × IfSome own (BeginsScript levels limits s)

-- these callers came to those that were there, and each began what it is for
abbrev pub HaveBegun : ℕ → LimitsView → List (List Line) → List CallerView → List CallerView → Type 0
HaveBegun levels limits scripts old new = (more : List CallerView) × (new ≡ old ++ more) × BeganBackwards levels limits scripts more
