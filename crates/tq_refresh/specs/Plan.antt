-- The refresh plan: which copies a refresh mends, and from where; and what a refresh asks for one of them. What a job
-- of the refresh asks, by a worker or by the shell: the source for its copy, and the server to take it.
use Rattle.std.specs.Prelude.{◌≡◌, ℕ, ◌-◌, ◌^◌, List, [], map, find, filter, Option, Some, None, ◌==◌, ◌&&◌, Bool, true, false, cond, ◌∷◌, ◌++◌, Ok, Err}
use Rattle.std.specs.{List.{All, flat_map}, Option.{option_and_then, option_map_or}}
use Rattle.tq_shape.specs.{Tree.Server, ServerSet.{Servers, has_number, servers_of_numbers}}
use Rattle.tq_shape.specs.declared.fault.AskFault.{AskFault}
use Rattle.tq_live.specs.{Live.{Live, is_up}, View.upwards}
use Rattle.tq_asks.specs.declared.ask.{NodeAsk.NodeAsk, NodeAsk.TheVariants.Work, WorkAsk.TheVariants.{Peek, Refresh}}
use Rattle.tq_asks.specs.declared.ask.{NodeReply.NodeReply, NodeReply.TheVariants.{Copy, Refreshed}}
use Rattle.tq_tables.specs.{declared.file_row.FileRow.FileRow, Tables.TablesView}
use Rattle.tq_refresh.specs.declared.{file_jobs.FileJobs.FileJobs, file_jobs.PlanByFile.PlanByFile, job.Job.Job}
use Rattle.tq_txn.specs.{Dialogue.{Told, Dialogue, Ends, AsksNode, Makes, Begins}, declared.asker.Exchange.Exchange}
use Rattle.tq_txn.specs.declared.asker.Exchange.TheVariants as exchanges
use Rattle.tq_txn_states.specs.declared.told.NodeTold.{NodeTold}

-- the servers of a set, upwards
abbrev pub servers_in : Servers → List Server
servers_in set = servers_of_numbers set.levels set.numbers

-- the servers of a tree that are marked up
abbrev pub servers_up : Live → Servers
servers_up live = record { levels = live.levels; numbers = filter (is_up live) (upwards 1 (2 ^ live.levels - 1)) }

-- the jobs that mend a file's copies at these servers from a source; none where there is no source
abbrev pub jobs_from : List ℕ → List Server → Option Server → List Job
jobs_from file servers None = []
jobs_from file servers (Some source) = map (λ server. record { file = file; server = server; source = source }) servers

-- of a file: each stale server that is marked up is mended, upwards, from the least current one that is marked up
abbrev pub jobs_of : Live → FileRow → List Job
jobs_of live row =
    jobs_from row.file
    (filter (λ server. is_up live server.number) (servers_in row.stale))
    (find (λ server. is_up live server.number) (servers_in row.current))

-- the same where the file's jobs are gathered, and this is the set of the servers that are marked up
abbrev pub jobs_in : Servers → FileJobs → List Job
jobs_in up of_file = jobs_from of_file.file (filter (λ server. has_number up.numbers server.number) (servers_in of_file.stale)) (Some of_file.source)

-- and the jobs of all files of a plan
abbrev pub jobs_of_plan : PlanByFile → List Job
jobs_of_plan plan = flat_map (jobs_in plan.up) plan.files.items

-- the servers of a file's jobs, and of those of a plan, are of a tree of so many levels
abbrev pub IsPlanned : ℕ → FileJobs → Type 0
IsPlanned levels of_file = (of_file.stale.levels ≡ levels) × (of_file.source.levels ≡ levels)

pub record ArePlanned (levels : ℕ) (plan : PlanByFile) : Type 0 where
  pub up : plan.up.levels ≡ levels
  pub files : All (IsPlanned levels) plan.files.items

-- of the tables: the jobs of each file in their order
abbrev pub plan_of : TablesView → Live → List Job
plan_of tables live = flat_map (jobs_of live) tables.files

-- what a source is asked: its copy of the file
abbrev pub peek_of : List ℕ → NodeAsk
peek_of file = Work (Peek file)

-- what the server to be mended is asked after this reply, which the source's entry of that number gave: where the reply is
-- a copy, to take the file at its version and content, on the word of that entry; nothing after any other reply
abbrev pub refresh_of : Job → ℕ → NodeReply → Option NodeAsk
refresh_of job number (Copy version content) =
    Some (Work (Refresh job.file version content (record { server = job.source.number; number = number })))
refresh_of job number _ = None

-- ---- mending

-- the reply to an ask, with the number of its entry; none where the ask was not taken
abbrev pub answer_in : Told NodeReply → Option (ℕ × NodeReply)
answer_in (Ok told) = Some (told.number, told.reply)
answer_in (Err fault) = None

abbrev pub is_refreshed : NodeReply → Bool
is_refreshed Refreshed = true
is_refreshed reply = false

-- the copy was taken
abbrev pub took : Option (ℕ × NodeReply) → Bool
took answer = option_map_or (λ a. is_refreshed a.1) answer false

-- what the server is asked after the source's answer: to take the copy that it told, on the word of that entry
abbrev pub mend_ask : Job → Option (ℕ × NodeReply) → Option NodeAsk
mend_ask job answer = option_and_then (λ a. refresh_of job a.0 a.1) answer

abbrev pub mend_asked : {E : Type 0} → (Bool → E) → Job → Option NodeAsk → Dialogue E
mend_asked end job None = Ends (end false)
mend_asked end job (Some ask) = AsksNode job.server.number ask (λ told. Ends (end (took (answer_in told))))

-- the source is asked for its copy, and, exactly where it tells one, the server to take it; `end` is what is made of
-- whether that mended the copy
abbrev pub job_asked : {E : Type 0} → (Bool → E) → Job → Dialogue E
job_asked end job = AsksNode job.source.number (peek_of job.file) (λ told. mend_asked end job (mend_ask job (answer_in told)))

-- a worker makes nothing of it
abbrev pub worker_asked : Job → Dialogue (Unit {0})
worker_asked job = job_asked (λ mended. tt) job

-- whether it mended the copy
abbrev pub mends_asked : Job → Dialogue Bool
mends_asked job = job_asked (λ mended. mended) job

-- both servers of the job are of a tree of that many levels
abbrev pub is_of_tree : ℕ → Job → Bool
is_of_tree levels job = (job.source.levels == levels) && (job.server.levels == levels)

-- in such a tree nothing is asked for a job of another one
abbrev pub refresh_asked : ℕ → Job → Dialogue (Unit {0})
refresh_asked levels job = cond (is_of_tree levels job) (worker_asked job) (Ends tt)

-- what was told grew by this ask of a server with its answer: with why it was not taken, where none is told
abbrev pub IsAnswered : ℕ → NodeAsk → Option NodeTold → List Exchange → List Exchange → Type 0
IsAnswered server ask (Some told) old new = new ≡ old ++ exchanges.Node server ask (Ok (record { number = told.number; reply = told.reply })) ∷ []
IsAnswered server ask None old new = (fault : AskFault) × (new ≡ old ++ exchanges.Node server ask (Err fault) ∷ [])

-- what was told grew by these asks, each with its answer
abbrev pub Grows : Dialogue (Unit {0}) → List Exchange → List Exchange → Type 0
Grows asked old new = (mine : List Exchange) × (new ≡ old ++ mine) × Makes asked mine tt

-- what was told grew by the first of these asks, each with its answer: the others were not made
abbrev pub IsBegun : Dialogue (Unit {0}) → List Exchange → List Exchange → Type 0
IsBegun asked old new = (mine : List Exchange) × (new ≡ old ++ mine) × Begins asked mine
