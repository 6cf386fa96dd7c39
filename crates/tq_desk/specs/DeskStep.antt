-- The step of the desk: what it has recorded, what it answers, and what it has recorded afterwards.
use Rattle.std.specs.Prelude.{◌+◌, ℕ, Bool, not, ◌&&◌, nat_lt, nat_le, List, map, filter, fold, length, Option, Some, None, is_some}
use Rattle.std.specs.Ordering.{nat_cmp}
use Rattle.std.specs.FinMap as fin
use Rattle.tq_shape.specs.{Limits.LimitsView, Journal.{refuse, refuse_for, state_at}}
use Rattle.tq_store.specs.Copies.{name_cmp}
use Rattle.tq_asks.specs.declared.ask.Verdict as verdict
use Rattle.tq_asks.specs.declared.ask.Verdict.TheVariants as verdicts
pub use Rattle.tq_desk.specs.Ballots.{citation, cited_votes}
use Rattle.tq_desk.specs.declared.ask.{DeskAsk.{DeskAsk, TheVariants.{Begin, Commit, Resolve}}, DeskRefusal.DeskRefusal}
use Rattle.tq_desk.specs.declared.ask.DeskReply.{DeskReply, TheVariants.{Txn, Verdict, Committed, Refused}}
use Rattle.tq_desk.specs.declared.ask.DeskRefusal.TheVariants.{NoSuchTxn, Decided, TooManyOps, BadEvidence, TooManyFiles}
use Rattle.tq_evidence.specs.{declared.op.Op.Op, declared.vote.Vote.Vote, Evidence.{failed_rule, is_write, IsGood}}

-- how each transaction ended that has
abbrev pub Finals : Type 0
Finals = fin.FinMap nat_cmp verdict.Verdict

-- a set of files: a map with nothing at each
abbrev pub FileSet : Type 0
FileSet = fin.FinMap name_cmp (Unit {0})

-- a desk: its tree's levels and its limits, how many transactions were begun, how each ended that has,
-- how many committed, and the files that they wrote
pub record DeskView : Type 0 where
  pub levels : ℕ
  pub limits : LimitsView
  pub begun : ℕ
  pub finals : Finals
  pub commits : ℕ
  pub files : FileSet

abbrev pub is_begun : DeskView → ℕ → Bool
is_begun old txn = nat_le 1 txn && nat_le txn old.begun

abbrev pub with_file : FileSet → List ℕ → FileSet
with_file files name = fin.insert files name tt

-- the files, with those that the ops write
abbrev pub with_files : FileSet → List Op → FileSet
with_files files ops = fold (λ done op. with_file done op.file) files (filter is_write ops)

-- the op writes a file that is not among these
abbrev pub is_new : FileSet → Op → Bool
is_new files op = is_write op && not (is_some (fin.get files op.file))

abbrev pub count_new : FileSet → List Op → ℕ
count_new files ops = length (filter (is_new files) ops)

-- with those that the ops write, more files are written than the limit
abbrev pub writes_too_many_files : DeskView → List Op → Bool
writes_too_many_files old ops = nat_lt old.limits.files (fin.len (with_files old.files ops))

abbrev pub commit_refusal : DeskView → ℕ → List Op → List Vote → Option DeskRefusal
commit_refusal old txn ops votes =
    refuse (not (is_begun old txn)) NoSuchTxn
    (refuse_for (fin.get old.finals txn) Decided
    (refuse (nat_lt old.limits.ops (length ops)) TooManyOps
    (refuse_for (failed_rule old.levels ops votes) BadEvidence
    (refuse (writes_too_many_files old ops) TooManyFiles None))))

-- a commit's evidence is good
abbrev pub HasGoodEvidence : ℕ → DeskAsk → Type 0
HasGoodEvidence levels (Commit txn ops votes) = IsGood levels ops votes
HasGoodEvidence levels ask = Unit {0}

abbrev pub desk_refusal : DeskView → DeskAsk → Option DeskRefusal
desk_refusal old Begin = None
desk_refusal old (Resolve txn) = refuse (not (is_begun old txn)) NoSuchTxn None
desk_refusal old (Commit txn ops votes) = commit_refusal old txn ops votes

-- how the transaction ended: Abort where nothing is recorded yet
abbrev pub final_or_abort : Option verdict.Verdict → verdict.Verdict
final_or_abort None = verdicts.Abort
final_or_abort (Some final) = final

abbrev pub desk_answer : DeskView → DeskAsk → DeskReply
desk_answer old Begin = Txn (old.begun + 1)
desk_answer old (Resolve txn) = Verdict (final_or_abort (fin.get old.finals txn))
desk_answer old (Commit txn ops votes) = Committed (old.commits + 1)

-- what is recorded stays, and where nothing is the transaction aborts
abbrev pub finals_after_resolve : Option verdict.Verdict → Finals → ℕ → Finals
finals_after_resolve None finals txn = fin.insert finals txn verdicts.Abort
finals_after_resolve (Some final) finals txn = finals

abbrev pub desk_after_abort : DeskView → ℕ → DeskView
desk_after_abort old txn = record old { finals = fin.insert old.finals txn verdicts.Abort }

abbrev pub desk_after_commit : DeskView → ℕ → List Op → List Vote → DeskView
desk_after_commit old txn ops votes =
    record old {
      finals = fin.insert old.finals txn (verdicts.Commit (cited_votes votes));
      commits = old.commits + 1;
      files = with_files old.files ops;
    }

abbrev pub desk_answered : DeskView → DeskAsk → DeskView
desk_answered old Begin = record old { begun = old.begun + 1 }
desk_answered old (Resolve txn) = record old { finals = finals_after_resolve (fin.get old.finals txn) old.finals txn }
desk_answered old (Commit txn ops votes) = desk_after_commit old txn ops votes

abbrev pub reply_at : Option DeskRefusal → DeskReply → DeskReply
reply_at None reply = reply
reply_at (Some reason) reply = Refused reason

abbrev pub desk_reply : DeskView → DeskAsk → DeskReply
desk_reply old ask = reply_at (desk_refusal old ask) (desk_answer old ask)

-- the desk after an ask: a refusal leaves it as it was
abbrev pub desk_after : DeskView → DeskAsk → DeskView
desk_after old ask = state_at (desk_refusal old ask) old (desk_answered old ask)

-- the desk that was asked nothing
abbrev pub opening_desk : ℕ → LimitsView → DeskView
opening_desk levels limits = record { levels = levels; limits = limits; begun = 0; finals = fin.empty; commits = 0; files = fin.empty }
