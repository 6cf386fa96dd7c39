-- What the types keep of the values in journals: names of files are such names, contents are bytes and not too many, and
-- quorums and blockers are of the coterie of their tree.
use Rattle.std.specs.{Prelude.{◌≡◌, ◌≤◌, ℕ, true, List, length, ⊤}, List.AllByRecursion}
use Rattle.hex.specs.Hex.{IsBytes}
use Rattle.tq_shape.specs.{declared.part.Entry.Entry, Limits.{LimitsView, AreLimits}}
use Rattle.tq_store.specs.{Names.is_file_name, declared.write.Write.Write}
use Rattle.tq_coterie.specs.Coterie.{ServerList, is_quorum}
use Rattle.tq_asks.specs.declared.ask.{HeldLock.HeldLock, NodeAsk.NodeAsk, NodeRefusal.NodeRefusal, NodeReply.NodeReply}
use Rattle.tq_asks.specs.declared.ask.WorkAsk.{WorkAsk}
use Rattle.tq_asks.specs.declared.ask.NodeAsk.TheVariants as ask
use Rattle.tq_asks.specs.declared.ask.NodeRefusal.TheVariants as refusal
use Rattle.tq_asks.specs.declared.ask.NodeReply.TheVariants as reply
use Rattle.tq_asks.specs.declared.ask.WorkAsk.TheVariants as work
use Rattle.tq_evidence.specs.declared.{grant.Grant.Grant, op.Op.Op, vote.Vote.Vote}
use Rattle.tq_desk.specs.{declared.ask.DeskAsk.DeskAsk, DeskJournal.DeskEntry}
use Rattle.tq_desk.specs.declared.ask.DeskAsk.TheVariants as desk
use Rattle.tq_live.specs.declared.view.{ViewRefusal.ViewRefusal, ViewReply.ViewReply}
use Rattle.tq_live.specs.declared.view.ViewRefusal.TheVariants as view_refusal
use Rattle.tq_live.specs.declared.view.ViewReply.TheVariants as view_reply
use Rattle.tq_node.specs.NodeJournal.{NodeEntry}
use Rattle.tq_tables.specs.Journals.{ViewEntry, JournalsView, AreJournals}

-- any value of the type will do
abbrev pub IsAny : {A : Type 0} → A → Type 0
IsAny value = ⊤

abbrev pub IsFile : List ℕ → Type 0
IsFile name = is_file_name name ≡ true

abbrev pub IsContent : List ℕ → Type 0
IsContent bytes = IsBytes bytes × (length bytes ≤ 4000)

abbrev pub IsMember : ServerList → Type 0
IsMember list = is_quorum list.levels list.servers ≡ true

-- an entry whose ask and reply are such
abbrev pub IsEntry : {A R : Type 0} → (A → Type 0) → (R → Type 0) → Entry A R → Type 0
IsEntry ask reply entry = ask entry.ask × reply entry.reply

-- ---- servers

abbrev pub IsWrite : Write → Type 0
IsWrite write = IsFile write.file × IsContent write.content

abbrev pub IsHeldLock : HeldLock → Type 0
IsHeldLock lock = IsFile lock.file

abbrev pub IsWork : WorkAsk → Type 0
IsWork (work.Lock mode txn file) = IsFile file
IsWork (work.Prepare txn writes) = AllByRecursion IsWrite writes
IsWork (work.Peek file) = IsFile file
IsWork (work.Refresh file version content from) = IsFile file × IsContent content
IsWork other = ⊤

abbrev pub IsNodeAsk : NodeAsk → Type 0
IsNodeAsk (ask.Work a) = IsWork a
IsNodeAsk (ask.CrashIn after a) = IsWork a × (after ≤ 4294967295)
IsNodeAsk other = ⊤

abbrev pub IsNodeRefusal : NodeRefusal → Type 0
IsNodeRefusal (refusal.NotLocked file) = IsFile file
IsNodeRefusal other = ⊤

abbrev pub IsNodeReply : NodeReply → Type 0
IsNodeReply (reply.Granted version content) = IsContent content
IsNodeReply (reply.Yes held writes) = AllByRecursion IsHeldLock held × AllByRecursion IsWrite writes
IsNodeReply (reply.Copy version content) = IsContent content
IsNodeReply (reply.Refused r) = IsNodeRefusal r
IsNodeReply other = ⊤

abbrev pub IsNodeEntry : NodeEntry → Type 0
IsNodeEntry = IsEntry IsNodeAsk IsNodeReply

-- ---- the desk

abbrev pub IsGrant : Grant → Type 0
IsGrant grant = IsContent grant.content

abbrev pub IsOp : Op → Type 0
IsOp op = IsFile op.file × IsContent op.content × AllByRecursion IsGrant op.grants

abbrev pub IsVote : Vote → Type 0
IsVote vote = AllByRecursion IsHeldLock vote.held × AllByRecursion IsWrite vote.writes

abbrev pub IsDeskAsk : DeskAsk → Type 0
IsDeskAsk (desk.Commit txn ops votes) = AllByRecursion IsOp ops × AllByRecursion IsVote votes
IsDeskAsk other = ⊤

abbrev pub IsDeskEntry : DeskEntry → Type 0
IsDeskEntry = IsEntry IsDeskAsk IsAny

-- ---- the view

abbrev pub IsViewRefusal : ViewRefusal → Type 0
IsViewRefusal (view_refusal.Blocked blocker) = IsMember blocker
IsViewRefusal other = ⊤

abbrev pub IsViewReply : ViewReply → Type 0
IsViewReply (view_reply.Chosen quorum cost) = IsMember quorum
IsViewReply (view_reply.Refused r) = IsViewRefusal r
IsViewReply other = ⊤

abbrev pub IsViewEntry : ViewEntry → Type 0
IsViewEntry = IsEntry IsAny IsViewReply

-- ---- the journals of all parts

abbrev pub HasLimits : LimitsView → Type 0
HasLimits limits = AreLimits limits.files limits.ops limits.entries

pub record AreSound (journals : JournalsView) : Type 0 where
  pub levels : (1 ≤ journals.levels) × (journals.levels ≤ 10)
  pub limits : HasLimits journals.limits
  pub fit : AreJournals journals
  pub servers : AllByRecursion (AllByRecursion IsNodeEntry) journals.servers
  pub desk : AllByRecursion IsDeskEntry journals.desk
  pub view : AllByRecursion IsViewEntry journals.view
