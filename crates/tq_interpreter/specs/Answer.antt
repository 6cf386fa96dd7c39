-- The lines of operators: the refresh of stale copies, and the board. What each line of the shell asks, in order, each
-- as the answers before demand, and what it makes of the answers: the text that is printed, and what is known of the
-- transactions afterwards. All from what was known before. What the shell stands on, and what it answers to a line.
use Rattle.std.specs.Prelude.{◌≡◌, ◌≤◌, ℕ, ◌+◌, Bool, true, false, cond, List, [], ◌∷◌, ◌++◌, length, codes, Option, Some, None, Result, Ok, Err, ◌⊎◌}
use Rattle.std.specs.{Fmt.decimal, Global.Vec}
use Rattle.tq_tables.specs.{Journals.{JournalsView, no_entries}, Parts.view_at, Tables.tables_of}
use Rattle.tq_refresh.specs.{Plan.{mends_asked, jobs_of_plan, plan_of}, declared.file_jobs.PlanByFile.PlanByFile}
use Rattle.tq_refresh.specs.declared.job.Job.{Job}
use Rattle.tq_board_text.specs.Board.{board_text}
use Rattle.tq_txn.specs.Dialogue as asks
use Rattle.tq_txn.specs.{Dialogue.{Ends, then_line, LineEnd, desk_line, view_line, Dialogue}, Script.mark_line}
use Rattle.tq_txn.specs.declared.{fault.LineFault.LineFault, asker.ViewTold.ViewTold, asker.Exchange.Exchange}
use Rattle.tq_text.specs.Print.{printed_line, choice_text, mark_word, fault_text, desk_refusal_text}
use Rattle.tq_interpreter.specs.{Recorded.{Ran, run_line, RecorderView, full_limits}, declared.operators.Counts.Counts}
use Rattle.tq_interpreter.specs.{declared.txn_slot.TxnSlot.TxnSlot, TxnAsked.{TxnAnswer, line_asked, result_text}}
use Rattle.tq_interpreter.specs.Known.{Known, known_at, with_begun, with_kept, nothing_known}
use Rattle.tq_desk.specs.declared.ask.DeskAsk.TheVariants as desk_asks
use Rattle.tq_desk.specs.declared.ask.DeskReply.{DeskReply}
use Rattle.tq_desk.specs.declared.ask.DeskReply.TheVariants as desk_replies
use Rattle.tq_live.specs.{View.{is_server, is_cost}, declared.purpose.Purpose.Purpose}
use Rattle.tq_live.specs.declared.view.ViewAsk.TheVariants as view_asks
use Rattle.tq_txn_states.specs.declared.told.DeskTold.{DeskTold}
use Rattle.tq_syntax.specs.declared.line.Line.{Line}
use Rattle.tq_syntax.specs.declared.line.Line.TheVariants as is
use Rattle.tq_core.specs.World.{desk_at}

-- no more copies were mended than there were jobs, and no more jobs than bytes that are written
abbrev pub IsCounted : Counts → Vec ℕ → Type 0
IsCounted counts text = (counts.mended ≤ counts.jobs) × (counts.jobs ≤ length text.items)

-- the servers of the job are of a tree of those levels
abbrev pub IsOfTree : ℕ → Job → Type 0
IsOfTree levels job = (job.server.levels ≡ levels) × (job.source.levels ≡ levels)

-- ---- all jobs, one after another

-- what jobs came to: a line for each, and how many copies were mended
pub record Mended : Type 0 where
  pub text : List ℕ
  pub count : ℕ

abbrev pub nothing_mended : Mended
nothing_mended = record { text = []; count = 0 }

-- the same behind a text
abbrev pub behind : List ℕ → Mended → Mended
behind text mended = record { text = text ++ mended.text; count = mended.count }

abbrev pub job_text : Job → Bool → List ℕ
job_text job true = codes "refreshed " ++ job.file ++ codes " at " ++ decimal job.server.number ++ codes " from " ++ decimal job.source.number
job_text job false = codes "not refreshed " ++ job.file ++ codes " at " ++ decimal job.server.number

-- the line for a copy that was mended, before the server's number and behind it
abbrev pub mended_front : List ℕ → List ℕ
mended_front file = codes "refreshed " ++ file ++ codes " at "

abbrev pub mended_back : ℕ → List ℕ
mended_back source = printed_line (codes " from " ++ decimal source)

abbrev pub with_job : Mended → Job → Bool → Mended
with_job mended job refreshed = record { text = mended.text ++ printed_line (job_text job refreshed); count = mended.count + cond refreshed 1 0 }

abbrev pub jobs_asked : Mended → List Job → asks.Dialogue Mended
jobs_asked mended [] = Ends mended
jobs_asked mended (job ∷ jobs) = then_line (mends_asked job) (λ refreshed. jobs_asked (with_job mended job refreshed) jobs)

-- what jobs came to so far, as text and count stand
abbrev pub so_far : List ℕ → ℕ → Mended
so_far text count = record { text = text; count = count }

-- the jobs that are left, behind what others came to, come to what all come to
pub record LeadsOn (old : JournalsView) (start : Mended) (jobs : List Job) (new : JournalsView) (mended : Mended) (left : List Job) : Type 0 where
  pub end : (run_line new (jobs_asked mended left)).end ≡ (run_line old (jobs_asked start jobs)).end
  pub after : (run_line new (jobs_asked mended left)).after ≡ (run_line old (jobs_asked start jobs)).after

-- what the jobs of the plan come to behind a text
abbrev pub plan_run : RecorderView → Vec ℕ → PlanByFile → Ran Mended
plan_run recorder text plan = run_line recorder.journals (jobs_asked (behind text.items nothing_mended) (jobs_of_plan plan))

-- how many of the jobs mended a copy
abbrev pub count_text : ℕ → ℕ → List ℕ
count_text count jobs = codes "refreshed " ++ decimal count ++ codes " of " ++ decimal jobs

abbrev pub refreshed_text : ℕ → Mended → List ℕ
refreshed_text jobs mended = mended.text ++ printed_line (count_text mended.count jobs)

-- the jobs of the plan, as the journals stand before the first of them
abbrev pub refresh_jobs : JournalsView → List Job
refresh_jobs journals = plan_of (tables_of journals) (view_at journals.levels journals.view)

-- each job of the plan, and then how many of them mended a copy
abbrev pub refresh_asked : JournalsView → asks.Dialogue (List ℕ)
refresh_asked journals =
    then_line (jobs_asked nothing_mended (refresh_jobs journals)) (λ mended. Ends (refreshed_text (length (refresh_jobs journals)) mended))

-- what the line comes to
abbrev pub refresh_run : JournalsView → Ran (List ℕ)
refresh_run journals = run_line journals (refresh_asked journals)

-- ---- the board

abbrev pub board_of : JournalsView → List ℕ
board_of journals = board_text (tables_of journals) (view_at journals.levels journals.view)

-- ---- asked

-- what a line says, and what is known then
pub record LineAnswer : Type 0 where
  pub text : List ℕ
  pub known : Known

abbrev pub text_line : Known → List ℕ → asks.Dialogue LineAnswer
text_line known text = Ends (record { text = printed_line text; known = known })

-- ---- the checks before

-- the transaction is one that was begun here
abbrev pub of_txn : Known → ℕ → Option TxnSlot → (ℕ → TxnSlot → asks.Dialogue TxnAnswer) → asks.Dialogue LineAnswer
of_txn known number None next = text_line known (codes "no such transaction " ++ decimal number)
of_txn known number (Some kept) next =
    then_line (next number kept) (λ end. Ends (record { text = printed_line end.text; known = with_kept known number end.kept }))

abbrev pub txn_asked : Known → ℕ → (ℕ → TxnSlot → asks.Dialogue TxnAnswer) → asks.Dialogue LineAnswer
txn_asked known number next = of_txn known number (known_at known number) next

-- ---- the lines of the parts

abbrev pub ok_text : ViewTold → List ℕ
ok_text told = codes "ok"

abbrev pub chosen_text : ViewTold → List ℕ
chosen_text told = choice_text told.reply

abbrev pub marked_text : ℕ → Bool → ViewTold → List ℕ
marked_text server up told = mark_word up ++ decimal server

abbrev pub view_end : Known → (ViewTold → List ℕ) → LineEnd ViewTold (Unit {0}) → LineAnswer
view_end known text end = record { text = printed_line (result_text [] text end.answer); known = known }

abbrev pub cost_asked : Known → ℕ → ℕ → ℕ → asks.Dialogue LineAnswer
cost_asked known server read write =
    then_line (view_line (view_asks.SetCost server read write)) (λ end. Ends (record { text = printed_line (result_text [] ok_text end.answer); known = known }))

abbrev pub mark_asked : Known → ℕ → Bool → asks.Dialogue LineAnswer
mark_asked known server up =
    then_line (mark_line server up) (λ end. Ends (record { text = printed_line (result_text [] (marked_text server up) end.answer); known = known }))

abbrev pub choose_asked : Known → Purpose → asks.Dialogue LineAnswer
choose_asked known purpose =
    then_line (view_line (view_asks.Choose purpose)) (λ end. Ends (record { text = printed_line (result_text [] chosen_text end.answer); known = known }))

abbrev pub begin_reply : Known → DeskReply → LineAnswer
begin_reply known (desk_replies.Txn number) = record { text = printed_line (codes "begun " ++ decimal number); known = with_begun known number }
begin_reply known (desk_replies.Refused refusal) = record { text = printed_line (desk_refusal_text refusal); known = known }
begin_reply known other = record { text = printed_line (codes "bad answer"); known = known }

abbrev pub begin_end : Known → Result DeskTold LineFault → LineAnswer
begin_end known (Ok told) = begin_reply known told.reply
begin_end known (Err fault) = record { text = printed_line (fault_text [] fault); known = known }

abbrev pub begin_asked : Known → asks.Dialogue LineAnswer
begin_asked known = then_line (desk_line desk_asks.Begin) (λ end. Ends (begin_end known end.answer))

-- ---- the lines of operators: what they ask and show rests on the journals as they stand before the line

abbrev pub text_answer : Known → List ℕ → LineAnswer
text_answer known text = record { text = text; known = known }

abbrev pub refresh_line : JournalsView → Known → asks.Dialogue LineAnswer
refresh_line journals known = then_line (refresh_asked journals) (λ text. Ends (text_answer known text))

-- nobody is asked
abbrev pub board_line : JournalsView → Known → asks.Dialogue LineAnswer
board_line journals known = Ends (text_answer known (board_of journals))

-- ---- all lines: the transaction is looked at first, then the server, then the state, then the rest; of two costs that to
-- read from first

abbrev pub line_dialogue : JournalsView → Known → Line → asks.Dialogue LineAnswer
line_dialogue journals known is.Empty = Ends (record { text = []; known = known })
line_dialogue journals known is.Bad = text_line known (codes "bad line")
line_dialogue journals known (is.Cost server read write) =
    cond (is_server known.levels server)
    (cond (is_cost read)
    (cond (is_cost write) (cost_asked known server read write) (text_line known (codes "bad cost " ++ decimal write)))
    (text_line known (codes "bad cost " ++ decimal read)))
    (text_line known (codes "no such server " ++ decimal server))
line_dialogue journals known (is.Mark server up) = cond (is_server known.levels server) (mark_asked known server up) (text_line known (codes "no such server " ++ decimal server))
line_dialogue journals known (is.Choose purpose) = choose_asked known purpose
line_dialogue journals known is.Begin = begin_asked known
line_dialogue journals known is.Refresh = refresh_line journals known
line_dialogue journals known is.Board = board_line journals known
line_dialogue journals known (is.Txn number line) = txn_asked known number (line_asked known.levels line)

-- ---- answer

-- the journals of the service that is asked, and what is known of its transactions
pub record World : Type 0 where
  pub journals : JournalsView
  pub known : Known

-- the service has these journals, and no line was read yet: what transactions the desk began are others'
abbrev pub over : JournalsView → World
over journals = record { journals = journals; known = nothing_known journals.levels journals.limits (desk_at journals.levels journals.limits journals.desk).begun }

-- nothing was asked yet
abbrev pub opening : ℕ → World
opening levels = over (no_entries levels full_limits)

-- what a line gives: the text that is written, the asks with what they were told, and the world after it
pub record Answer : Type 0 where
  pub text : List ℕ
  pub exchanges : List Exchange
  pub after : World

abbrev pub answer_of_run : Ran LineAnswer → Answer
answer_of_run ran = record { text = ran.end.text; exchanges = ran.exchanges; after = record { journals = ran.after; known = ran.end.known } }

-- what a line that asks so gives, by what is known
abbrev pub given_by : World → (Known → Dialogue LineAnswer) → Answer
given_by world line = answer_of_run (run_line world.journals (line world.known))

-- the asks of the line, by the journals before it and by what is known, answered by the service
abbrev pub answer : World → Line → Answer
answer world line = given_by world (λ known. line_dialogue world.journals known line)

-- the world stands before the line, or behind it: what was told of its asks stands in it
abbrev pub IsWhole : World → Line → World → Type 0
IsWhole world line after = (after ≡ world) ⊎ (after ≡ (answer world line).after)
