-- The journal of the desk, newest entry first: what is legal, and what its entries say. What good evidence shows, and
-- the laws of the desk's journal. What contracts see of the parts of a desk, and their codes.
use Rattle.std.specs.Prelude.{◌≡◌, ◌+◌, ◌==◌, ◌⊎◌, ℕ, suc, true, cond, List, [], ◌∷◌, Option, Some, None, if◌then◌else◌, ◌≤◌, Bool, false, refl}
use Rattle.std.specs.{List.find, Coded.{Coded, code_by, coded×, coded_list, coded_ℕ}}
use Rattle.std.specs.FinMap as fin
use Rattle.tq_shape.specs.{Journal.{entry_at, Has, IsLegal, state_after, or_else}, Limits.LimitsView}
use Rattle.tq_shape.specs.declared.part.Entry.{Entry}
use Rattle.tq_asks.specs.{declared.ask.Verdict.Verdict, declared.ask.HeldLock.HeldLock, Verdicts.IsCited}
use Rattle.tq_asks.specs.declared.ask.Verdict.TheVariants as verdicts
use Rattle.tq_desk.specs.declared.ask.{DeskAsk.DeskAsk, DeskReply.DeskReply}
use Rattle.tq_desk.specs.DeskStep.{DeskView, FileSet, cited_votes, desk_after, desk_reply, opening_desk, with_files, Finals}
use Rattle.tq_desk.specs.declared.ask.DeskAsk.TheVariants as asks
use Rattle.tq_desk.specs.declared.ask.DeskRefusal.TheVariants as refusals
use Rattle.tq_desk.specs.declared.ask.DeskReply.TheVariants as replies
use Rattle.tq_evidence.specs.{declared.op.Op.Op, declared.vote.Vote.Vote, Evidence.{is_write, writes_file, servers_of}}
use Rattle.tq_evidence.specs.declared.grant.Grant.{Grant}
use Rattle.tq_coterie.specs.Coterie.{is_quorum}
use Rattle.tq_store.specs.declared.write.Write.{Write}
use Rattle.std.specs.FinSet as set

-- what bounds a desk: the levels of its tree and its limits
pub record DeskBounds : Type 0 where
  pub levels : ℕ
  pub limits : LimitsView

abbrev pub DeskEntry : Type 0
DeskEntry = Entry DeskAsk DeskReply

-- ---- legal journals: each reply is that of the desk's step after the entries before it

abbrev pub opened_desk : DeskBounds → DeskView
opened_desk bounds = opening_desk bounds.levels bounds.limits

-- the step takes no notice of the entry's number
abbrev pub step_reply : DeskView → ℕ → DeskAsk → DeskReply
step_reply old number ask = desk_reply old ask

abbrev pub step_after : DeskView → ℕ → DeskAsk → DeskView
step_after old number ask = desk_after old ask

abbrev pub desk_state : DeskBounds → List DeskEntry → DeskView
desk_state bounds journal = state_after step_after (opened_desk bounds) journal

abbrev pub IsLegalDesk : DeskBounds → List DeskEntry → Type 0
IsLegalDesk bounds journal = IsLegal step_reply step_after (opened_desk bounds) journal

-- ---- the decision log, of the entries alone

abbrev pub begun_with : DeskReply → ℕ → ℕ
begun_with (replies.Txn txn) earlier = earlier + 1
begun_with reply earlier = earlier

-- how many transactions were begun: the replies to Begin
abbrev pub begin_count : List DeskEntry → ℕ
begin_count [] = 0
begin_count (e ∷ earlier) = begun_with e.reply (begin_count earlier)

-- the end that an entry records for the transaction: Commit with the votes of a commit that was answered so,
-- Abort where a verdict was asked for and told
abbrev pub ending_of : DeskAsk → DeskReply → ℕ → Option Verdict
ending_of (asks.Commit txn ops votes) (replies.Committed serial) t = if t == txn then Some (verdicts.Commit (cited_votes votes)) else None
ending_of (asks.Resolve txn) (replies.Verdict verdict) t = if t == txn then Some verdicts.Abort else None
ending_of ask reply t = None

-- how the transaction ended, if it has: the first end that is recorded for it
abbrev pub final : List DeskEntry → ℕ → Option Verdict
final [] t = None
final (e ∷ earlier) t = or_else (final earlier t) (ending_of e.ask e.reply t)

-- a commit as it was asked
pub record Commit : Type 0 where
  pub txn : ℕ
  pub ops : List Op
  pub votes : List Vote

abbrev pub with_commit : DeskAsk → DeskReply → List Commit → List Commit
with_commit (asks.Commit txn ops votes) (replies.Committed serial) earlier = record { txn = txn; ops = ops; votes = votes } ∷ earlier
with_commit ask reply earlier = earlier

-- the commits that were answered so, the newest first; the serial of one is its place from the oldest, from 1
abbrev pub commits : List DeskEntry → List Commit
commits [] = []
commits (e ∷ earlier) = with_commit e.ask e.reply (commits earlier)

-- the files that the commits wrote
abbrev pub written_files : List Commit → FileSet
written_files [] = fin.empty
written_files (c ∷ earlier) = with_files (written_files earlier) c.ops

-- ---- what an entry tells

-- what an entry says of a transaction's end
abbrev pub gives_verdict : DeskEntry → ℕ → Verdict → Type 0
gives_verdict entry txn verdict =
    ((ops : List Op) × (votes : List Vote) × (serial : ℕ) × (entry ≡ record { ask = asks.Commit txn ops votes; reply = replies.Committed serial }) × (verdict ≡ verdicts.Commit (cited_votes votes)))
    ⊎ ((entry ≡ record { ask = asks.Resolve txn; reply = replies.Verdict verdict })
    ⊎ ((ops : List Op) × (votes : List Vote) × (entry ≡ record { ask = asks.Commit txn ops votes; reply = replies.Refused (refusals.Decided verdict) })))

-- the entry of that number tells that the transaction ended so
pub record VerdictAt (journal : List DeskEntry) (number txn : ℕ) (verdict : Verdict) : Type 0 where
  pub entry : DeskEntry
  pub is_there : entry_at journal number ≡ Some entry
  pub gives : gives_verdict entry txn verdict

-- ---- what is read and written, over the list of the commits alone

abbrev pub count_one : Option Op → ℕ → ℕ
count_one None earlier = earlier
count_one (Some op) earlier = suc earlier

-- how many of the commits write the file
abbrev pub count : List ℕ → List Commit → ℕ
count file [] = 0
count file (c ∷ earlier) = count_one (find (writes_file file) c.ops) (count file earlier)

abbrev pub last_one : Option Op → List ℕ → List ℕ
last_one None earlier = earlier
last_one (Some op) earlier = op.content

-- the content that the last commit which writes the file writes, empty where there is none
abbrev pub last_write : List ℕ → List Commit → List ℕ
last_write file [] = []
last_write file (c ∷ earlier) = last_one (find (writes_file file) c.ops) (last_write file earlier)

-- a read is of the last write and has its number, a write has the next number
abbrev pub IsNumbered : List Commit → Op → Type 0
IsNumbered earlier op = cond (is_write op) (op.version ≡ suc (count op.file earlier)) ((op.version ≡ count op.file earlier) × (op.content ≡ last_write op.file earlier))

abbrev pub AreNumbered : List Commit → Type 0
AreNumbered [] = Unit {0}
AreNumbered (c ∷ earlier) = ((op : Op) → Has c.ops op → IsNumbered earlier op) × AreNumbered earlier

-- some commit has a write op of this file, version and content
pub record IsWritten (list : List Commit) (file : List ℕ) (version : ℕ) (content : List ℕ) : Type 0 where
  pub commit : Commit
  pub is_there : Has list commit
  pub op : Op
  pub has_op : Has commit.ops op
  pub writes : is_write op ≡ true
  pub on_file : op.file ≡ file
  pub of_version : op.version ≡ version
  pub of_content : op.content ≡ content

-- ---- laws

-- a grant of the op has the greatest version
pub record HasTop (op : Op) (top : Grant) : Type 0 where
  pub is_there : Has op.grants top
  pub bounds : (grant : Grant) → Has op.grants grant → grant.version ≤ top.version

-- a vote of the grant's server holds the file from no later than the grant
pub record IsCovered (votes : List Vote) (file : List ℕ) (grant : Grant) (vote : Vote) (since : ℕ) : Type 0 where
  pub is_there : Has votes vote
  pub at_server : vote.server ≡ grant.server
  pub lock : HeldLock
  pub has_lock : Has vote.held lock
  pub on_file : lock.file ≡ file
  pub since_is : lock.since ≡ since
  pub from : since ≤ grant.number

-- what good evidence shows
pub record IsShown (is_member : List ℕ → Bool) (ops : List Op) (votes : List Vote) : Type 0 where
  pub members : (op : Op) → Has ops op → is_member (servers_of op) ≡ true
  pub coverage : (op : Op) → Has ops op → (grant : Grant) → Has op.grants grant → (vote : Vote) × (since : ℕ) × IsCovered votes op.file grant vote since
  -- a write of a vote is that of a write op, and each write op's write is in the vote of each of its servers
  pub of_op : (vote : Vote) → Has votes vote → (write : Write) → Has vote.writes write
      → (op : Op) × Has ops op × (is_write op ≡ true) × (write ≡ record { file = op.file; version = op.version; content = op.content })
  pub in_vote : (vote : Vote) → Has votes vote → (op : Op) → Has ops op → is_write op ≡ true → Has (servers_of op) vote.server
      → Has vote.writes (record { file = op.file; version = op.version; content = op.content })
  pub top : (op : Op) → Has ops op → (grant : Grant) → Has op.grants grant → (newest : Grant) × HasTop op newest
  pub write_version : (op : Op) → Has ops op → is_write op ≡ true → (newest : Grant) → HasTop op newest → op.version ≡ suc newest.version
  pub read_copy : (op : Op) → Has ops op → is_write op ≡ false → (newest : Grant) × HasTop op newest × (op.version ≡ newest.version) × (op.content ≡ newest.content)
  -- one write op of a file at most
  pub once : (a b : Op) → Has ops a → Has ops b → is_write a ≡ true → is_write b ≡ true → a.file ≡ b.file → a ≡ b

-- the laws of the desk
pub record DeskLaws (bounds : DeskBounds) : Type 0 where
  -- a told verdict is final
  pub told : (journal : List DeskEntry) → IsLegalDesk bounds journal → (k txn : ℕ) (verdict : Verdict) → VerdictAt journal k txn verdict → final journal txn ≡ Some verdict
  -- a final Commit that cites something is that of a commit
  pub committed : (journal : List DeskEntry) → IsLegalDesk bounds journal → (txn : ℕ) (verdict : Verdict) → final journal txn ≡ Some verdict
      → (server number : ℕ) → IsCited verdict server number
      → (c : Commit) × Has (commits journal) c × (c.txn ≡ txn) × (verdict ≡ verdicts.Commit (cited_votes c.votes))
  -- a commit's verdict is told by its entry
  pub stands : (journal : List DeskEntry) (c : Commit) → Has (commits journal) c → (k : ℕ) × VerdictAt journal k c.txn (verdicts.Commit (cited_votes c.votes))
  -- a commit is of a transaction that had not ended, with good evidence
  pub fresh : (journal : List DeskEntry) (txn : ℕ) (ops : List Op) (votes : List Vote) (serial : ℕ)
      → IsLegalDesk bounds (record { ask = asks.Commit txn ops votes; reply = replies.Committed serial } ∷ journal)
      → (final journal txn ≡ None) × IsShown (is_quorum bounds.levels) ops votes

-- ---- views

-- the ends recorded, and how many more fit with no memory asked for
pub record FinalsView : Type 0 where
  pub finals : Finals
  pub room : ℕ

-- the files, and how many more fit with no memory asked for
pub record FilesView : Type 0 where
  pub files : FileSet
  pub room : ℕ

abbrev pub finals_code : Coded Verdict → Coded Finals
finals_code verdict_code = fin.code coded_ℕ verdict_code

abbrev pub files_code : Coded FileSet
files_code = set.code (coded_list coded_ℕ)

abbrev pub finals_view_code : Coded Verdict → Coded FinalsView
finals_view_code verdict_code = code_by (Finals × ℕ) (coded× (finals_code verdict_code) coded_ℕ) (λ v. (v.finals, v.room)) (λ p. record { finals = p.0; room = p.1 }) (λ _. refl)

abbrev pub files_view_code : Coded FilesView
files_view_code = code_by (FileSet × ℕ) (coded× files_code coded_ℕ) (λ v. (v.files, v.room)) (λ p. record { files = p.0; room = p.1 }) (λ _. refl)

abbrev pub limits_code : Coded LimitsView
limits_code = code_by (ℕ × (ℕ × ℕ)) (coded× coded_ℕ (coded× coded_ℕ coded_ℕ)) (λ l. (l.files, (l.ops, l.entries))) (λ p. record { files = p.0; ops = p.1.0; entries = p.1.1 }) (λ _. refl)

abbrev pub desk_code : Coded Verdict → Coded DeskView
desk_code verdict_code =
    code_by (ℕ × (LimitsView × (ℕ × (Finals × (ℕ × FileSet)))))
    (coded× coded_ℕ (coded× limits_code (coded× coded_ℕ (coded× (finals_code verdict_code) (coded× coded_ℕ files_code)))))
    (λ d. (d.levels, (d.limits, (d.begun, (d.finals, (d.commits, d.files))))))
    (λ p. record { levels = p.0; limits = p.1.0; begun = p.1.1.0; finals = p.1.1.1.0; commits = p.1.1.1.1.0; files = p.1.1.1.1.1 })
    (λ _. refl)
