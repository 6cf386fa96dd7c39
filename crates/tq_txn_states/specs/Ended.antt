-- A transaction that ended, and how.
use Rattle.std.specs.Prelude.{◌≡◌, ◌==◌, ℕ, List, Option, Some, None, if◌then◌else◌}
use Rattle.tq_asks.specs.declared.ask.{NodeAsk.{NodeAsk, TheVariants.Work}, Verdict.Verdict, WorkAsk.TheVariants.Decide}
use Rattle.tq_asks.specs.declared.ask.Verdict.TheVariants as verdicts
use Rattle.tq_desk.specs.declared.ask.{DeskAsk.{DeskAsk, TheVariants.{Begin, Commit, Resolve}}, DeskReply.DeskReply}
use Rattle.tq_desk.specs.{declared.ask.DeskRefusal.TheVariants.Decided, DeskStep.cited_votes}
use Rattle.tq_desk.specs.declared.ask.DeskReply.TheVariants as replies
use Rattle.tq_evidence.specs.declared.vote.Vote.{Vote}
use Rattle.tq_txn_states.specs.{declared.told.DeskTold.DeskTold, declared.fault.TxnFault.TxnFault, Open.OpenView}
use Rattle.tq_txn_states.specs.declared.fault.TxnFault.TheVariants.{NotMyVerdict}

-- how a transaction ended, the desk's entry that said so, and the servers that granted it a lock, as far as it was handed them
pub record EndedView : Type 0 where
  pub levels : ℕ
  pub txn : ℕ
  pub verdict : Verdict
  pub cite : ℕ
  pub servers : List ℕ

-- the verdict that an answer to a commit tells: its own, or the one that stands already
abbrev pub commit_verdict : List Vote → DeskReply → Option Verdict
commit_verdict votes (replies.Committed serial) = Some (verdicts.Commit (cited_votes votes))
commit_verdict votes (replies.Refused (Decided verdict)) = Some verdict
commit_verdict votes reply = None

abbrev pub resolve_verdict : DeskReply → Option Verdict
resolve_verdict (replies.Verdict verdict) = Some verdict
resolve_verdict reply = None

-- the verdict on a transaction that an answer of the desk tells
abbrev pub verdict_by : ℕ → DeskAsk → DeskReply → Option Verdict
verdict_by txn Begin reply = None
verdict_by txn (Commit asked ops votes) reply = if asked == txn then commit_verdict votes reply else None
verdict_by txn (Resolve asked) reply = if asked == txn then resolve_verdict reply else None

abbrev pub verdict_in : ℕ → DeskTold → Option Verdict
verdict_in txn told = verdict_by txn told.ask told.reply

abbrev pub fault_without : Option Verdict → Option TxnFault
fault_without None = Some NotMyVerdict
fault_without (Some verdict) = None

-- an answer that tells no verdict on the transaction does not end it
abbrev pub end_fault : OpenView → DeskTold → Option TxnFault
end_fault old told = fault_without (verdict_in old.txn told)

-- the answer ends the transaction so
pub record IsEnd (old : OpenView) (told : DeskTold) (ended : EndedView) : Type 0 where
  pub levels : ended.levels ≡ old.levels
  pub txn : ended.txn ≡ old.txn
  pub verdict : verdict_in old.txn told ≡ Some ended.verdict
  pub cite : ended.cite ≡ told.number
  pub servers : ended.servers ≡ old.touched

-- the transaction as a verdict ends it, which the desk's entry of that number told
abbrev pub ended_with : OpenView → ℕ → Verdict → EndedView
ended_with old cite verdict = record { levels = old.levels; txn = old.txn; verdict = verdict; cite = cite; servers = old.touched }

-- the ask that tells a server the verdict
abbrev pub decide_ask : EndedView → NodeAsk
decide_ask old = Work (Decide old.txn old.verdict old.cite)
