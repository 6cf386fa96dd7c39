-- The decision log: what the desk answers, read off its journal alone, and what it keeps.
use Rattle.std.specs.Prelude.{◌≡◌, ◌+◌, ◌&&◌, ◌++◌, ℕ, Bool, not, nat_lt, nat_le, List, [], ◌∷◌, length, Option, Some, None, is_some}
use Rattle.std.specs.List.{list_any}
use Rattle.std.specs.FinMap as fin
use Rattle.tq_shape.specs.Journal.{entry, refuse, refuse_for}
use Rattle.tq_asks.specs.declared.ask.Verdict.{Verdict as Final}
use Rattle.tq_desk.specs.declared.ask.{DeskAsk.{DeskAsk, TheVariants.{Begin, Commit, Resolve}}, DeskRefusal.DeskRefusal}
use Rattle.tq_desk.specs.declared.ask.DeskReply.{DeskReply, TheVariants.{Txn, Verdict, Committed}}
use Rattle.tq_desk.specs.declared.ask.DeskRefusal.TheVariants.{NoSuchTxn, Decided, TooManyOps, BadEvidence, TooManyFiles}
use Rattle.tq_desk.specs.DeskStep.{DeskView, final_or_abort, reply_at, with_files}
use Rattle.tq_desk.specs.DeskJournal.{DeskBounds, DeskEntry, begin_count, commits, desk_state, final, IsLegalDesk, written_files}
use Rattle.tq_evidence.specs.Evidence.{failed_rule, writes_file}
use Rattle.tq_desk.specs.DeskJournal as log

-- some commit has a write of the file
abbrev pub is_written : List log.Commit → List ℕ → Bool
is_written commits name = list_any (λ commit. list_any (writes_file name) commit.ops) commits

-- the files written are those that some commit writes
abbrev pub AreWritten : Type 0
AreWritten = (commits : List log.Commit) (name : List ℕ) → is_some (fin.get (log.written_files commits) name) ≡ is_written commits name

-- the number is that of a transaction begun
abbrev pub is_txn : List DeskEntry → ℕ → Bool
is_txn journal txn = nat_le 1 txn && nat_le txn (begin_count journal)

-- what an ask is refused for: the first reason that holds
abbrev pub log_refusal : DeskBounds → List DeskEntry → DeskAsk → Option DeskRefusal
log_refusal bounds journal Begin = None
log_refusal bounds journal (Resolve txn) = refuse (not (is_txn journal txn)) NoSuchTxn None
log_refusal bounds journal (Commit txn ops votes) =
    refuse (not (is_txn journal txn)) NoSuchTxn
    (refuse_for (final journal txn) Decided
    (refuse (nat_lt bounds.limits.ops (length ops)) TooManyOps
    (refuse_for (failed_rule bounds.levels ops votes) BadEvidence
    (refuse (nat_lt bounds.limits.files (fin.len (with_files (written_files (commits journal)) ops))) TooManyFiles None))))

-- what an ask is answered that is not refused
abbrev pub log_answer : List DeskEntry → DeskAsk → DeskReply
log_answer journal Begin = Txn (begin_count journal + 1)
log_answer journal (Resolve txn) = Verdict (final_or_abort (final journal txn))
log_answer journal (Commit txn ops votes) = Committed (length (commits journal) + 1)

-- the desk's reply to an ask after these entries
abbrev pub log_reply : DeskBounds → List DeskEntry → DeskAsk → DeskReply
log_reply bounds journal ask = reply_at (log_refusal bounds journal ask) (log_answer journal ask)

-- each reply is the log's after the entries before it
abbrev pub IsDecisionLog : DeskBounds → List DeskEntry → Type 0
IsDecisionLog bounds [] = Unit {0}
IsDecisionLog bounds (e ∷ earlier) = (e.reply ≡ log_reply bounds earlier e.ask) × IsDecisionLog bounds earlier

-- a desk has kept what the journal says
pub record Keeps (bounds : DeskBounds) (journal : List DeskEntry) (desk : DeskView) : Type 0 where
  pub levels : desk.levels ≡ bounds.levels
  pub limits : desk.limits ≡ bounds.limits
  pub begun : desk.begun ≡ log.begin_count journal
  pub finals : (txn : ℕ) → fin.get desk.finals txn ≡ log.final journal txn
  pub commits : desk.commits ≡ length (log.commits journal)
  pub files : desk.files ≡ log.written_files (log.commits journal)

-- an answer of a desk that stands where a legal journal leaves it: the log's reply, and the desk stands
-- where the journal with this entry leaves it, which is legal
pub record AnswersByLog (old new : DeskView) (ask : DeskAsk) (reply : DeskReply) (bounds : DeskBounds) (journal : List DeskEntry) : Type 0 where
  pub reply_is : reply ≡ log_reply bounds journal ask
  pub legal : IsLegalDesk bounds (entry ask reply ∷ journal)
  pub stands : new ≡ desk_state bounds (entry ask reply ∷ journal)

-- an end once recorded stays, whatever is asked later
abbrev pub EndsStay : Type 0
EndsStay = (later journal : List DeskEntry) (txn : ℕ) (verdict : Final) → final journal txn ≡ Some verdict → final (later ++ journal) txn ≡ Some verdict

-- and is what a Resolve is answered from then on
abbrev pub EndsAreTold : DeskBounds → Type 0
EndsAreTold bounds =
    (later journal : List DeskEntry) (txn : ℕ) (verdict : Final) (reply : DeskReply) → final journal txn ≡ Some verdict
    → IsLegalDesk bounds (entry (Resolve txn) reply ∷ (later ++ journal)) → reply ≡ Verdict verdict

-- where the desk stands where a legal journal leaves it, so many transactions were begun in that journal
abbrev pub BeginsByLog : DeskView → ℕ → Type 0
BeginsByLog desk count = (bounds : DeskBounds) (journal : List DeskEntry) → IsLegalDesk bounds journal → desk ≡ desk_state bounds journal → count ≡ begin_count journal

-- where the desk stands where a legal journal leaves it, the transaction ended so in that journal
abbrev pub EndsByLog : DeskView → ℕ → Option Final → Type 0
EndsByLog desk txn ended = (bounds : DeskBounds) (journal : List DeskEntry) → IsLegalDesk bounds journal → desk ≡ desk_state bounds journal → ended ≡ final journal txn

-- where the desk stands where a legal journal leaves it, it answers by that journal
abbrev pub AnswersByLogs : DeskView → DeskView → DeskAsk → DeskReply → Type 0
AnswersByLogs old new ask reply =
    (bounds : DeskBounds) (journal : List DeskEntry) → IsLegalDesk bounds journal → old ≡ desk_state bounds journal → AnswersByLog old new ask reply bounds journal

-- each legal journal of a desk is a decision log
abbrev pub LegalIsLog : Type 0
LegalIsLog = (bounds : DeskBounds) (journal : List DeskEntry) → IsLegalDesk bounds journal → IsDecisionLog bounds journal

-- each decision log is a legal journal of a desk
abbrev pub LogIsLegal : Type 0
LogIsLegal = (bounds : DeskBounds) (journal : List DeskEntry) → IsDecisionLog bounds journal → IsLegalDesk bounds journal

-- behind each legal journal a desk has kept what the journal says
abbrev pub KeepsJournals : Type 0
KeepsJournals = (bounds : DeskBounds) (journal : List DeskEntry) → IsLegalDesk bounds journal → Keeps bounds journal (desk_state bounds journal)
