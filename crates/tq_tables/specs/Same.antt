-- How lists begin. Whether two asks or two replies are the same, as tests.
use Rattle.std.specs.{Prelude.{◌≡◌, ◌++◌, List, ◌==◌, ◌&&◌, Bool, true, false}, Cmp.Lexicographic.pointwise}
use Rattle.tq_store.specs.{declared.write.Write.Write, Names.same_name}
use Rattle.tq_locks.specs.declared.mode.{Mode.Mode, Mode.TheVariants.{Shared, Exclusive}}
use Rattle.tq_asks.specs.declared.ask.{HeldLock.HeldLock, WorkAsk.WorkAsk, NodeAsk.NodeAsk, NodeRefusal.NodeRefusal}
use Rattle.tq_asks.specs.{declared.ask.NodeReply.NodeReply, Verdicts.{same_cited, same_verdict}}
use Rattle.tq_asks.specs.declared.ask.WorkAsk.TheVariants as work
use Rattle.tq_asks.specs.declared.ask.NodeAsk.TheVariants as node_asks
use Rattle.tq_asks.specs.declared.ask.NodeRefusal.TheVariants as reasons
use Rattle.tq_asks.specs.declared.ask.NodeReply.TheVariants as replies
use Rattle.tq_evidence.specs.declared.{grant.Grant.Grant, op.Op.Op, op.OpKind.OpKind, vote.Vote.Vote}
use Rattle.tq_evidence.specs.Evidence.{rule_number}
use Rattle.tq_evidence.specs.declared.op.OpKind.TheVariants as kinds
use Rattle.tq_desk.specs.declared.ask.{DeskAsk.DeskAsk, DeskRefusal.DeskRefusal, DeskReply.DeskReply}
use Rattle.tq_desk.specs.declared.ask.DeskAsk.TheVariants as desk_asks
use Rattle.tq_desk.specs.declared.ask.DeskRefusal.TheVariants as desk_reasons
use Rattle.tq_desk.specs.declared.ask.DeskReply.TheVariants as desk_replies

-- the list begins with these items
abbrev pub Begins : {A : Type 0} → List A → List A → Type 0
Begins {A} first items = (rest : List A) × (items ≡ first ++ rest)

-- ---- same

abbrev pub same_mode : Mode → Mode → Bool
same_mode Shared Shared = true
same_mode Exclusive Exclusive = true
same_mode a b = false

abbrev pub same_lock : HeldLock → HeldLock → Bool
same_lock a b = same_name a.file b.file && same_mode a.mode b.mode && a.since == b.since

abbrev pub same_write : Write → Write → Bool
same_write a b = same_name a.file b.file && a.version == b.version && same_name a.content b.content

-- ---- of a server

abbrev pub same_work : WorkAsk → WorkAsk → Bool
same_work (work.Lock m t f) (work.Lock n u g) = t == u && same_name f g && same_mode m n
same_work (work.Prepare t a) (work.Prepare u b) = t == u && pointwise same_write a b
same_work (work.Decide t v c) (work.Decide u w d) = t == u && same_verdict v w && c == d
same_work (work.Release t) (work.Release u) = t == u
same_work (work.Peek f) (work.Peek g) = same_name f g
same_work (work.Refresh f v c s) (work.Refresh g w d r) = same_name f g && v == w && same_name c d && same_cited s r
same_work a b = false

abbrev pub same_node_ask : NodeAsk → NodeAsk → Bool
same_node_ask (node_asks.Work a) (node_asks.Work b) = same_work a b
same_node_ask node_asks.Crash node_asks.Crash = true
same_node_ask node_asks.Return node_asks.Return = true
same_node_ask (node_asks.CrashIn k a) (node_asks.CrashIn l b) = same_work a b && k == l
same_node_ask a b = false

abbrev pub same_reason : NodeRefusal → NodeRefusal → Bool
same_reason reasons.Down reasons.Down = true
same_reason reasons.AlreadyUp reasons.AlreadyUp = true
same_reason reasons.AlreadyDown reasons.AlreadyDown = true
same_reason (reasons.Held a) (reasons.Held b) = a == b
same_reason reasons.Prepared reasons.Prepared = true
same_reason (reasons.NotLocked a) (reasons.NotLocked b) = same_name a b
same_reason reasons.BadWrites reasons.BadWrites = true
same_reason reasons.NotNewer reasons.NotNewer = true
same_reason reasons.NothingHere reasons.NothingHere = true
same_reason a b = false

abbrev pub same_node_reply : NodeReply → NodeReply → Bool
same_node_reply (replies.Granted v c) (replies.Granted w d) = v == w && same_name c d
same_node_reply (replies.Yes a b) (replies.Yes c d) = pointwise same_lock a c && pointwise same_write b d
same_node_reply replies.Installed replies.Installed = true
same_node_reply replies.Discarded replies.Discarded = true
same_node_reply replies.Released replies.Released = true
same_node_reply (replies.Copy v c) (replies.Copy w d) = v == w && same_name c d
same_node_reply replies.Refreshed replies.Refreshed = true
same_node_reply replies.Crashed replies.Crashed = true
same_node_reply replies.Returned replies.Returned = true
same_node_reply (replies.Refused a) (replies.Refused b) = same_reason a b
same_node_reply a b = false

-- ---- of the desk

abbrev pub same_kind : OpKind → OpKind → Bool
same_kind kinds.Read kinds.Read = true
same_kind kinds.Write kinds.Write = true
same_kind a b = false

abbrev pub same_grant : Grant → Grant → Bool
same_grant a b = a.server == b.server && a.number == b.number && same_mode a.mode b.mode && a.version == b.version && same_name a.content b.content

abbrev pub same_op : Op → Op → Bool
same_op a b = same_name a.file b.file && same_kind a.kind b.kind && a.version == b.version && same_name a.content b.content && pointwise same_grant a.grants b.grants

abbrev pub same_vote : Vote → Vote → Bool
same_vote a b = a.server == b.server && a.number == b.number && pointwise same_lock a.held b.held && pointwise same_write a.writes b.writes

abbrev pub same_desk_ask : DeskAsk → DeskAsk → Bool
same_desk_ask desk_asks.Begin desk_asks.Begin = true
same_desk_ask (desk_asks.Commit t a v) (desk_asks.Commit u b w) = t == u && pointwise same_op a b && pointwise same_vote v w
same_desk_ask (desk_asks.Resolve t) (desk_asks.Resolve u) = t == u
same_desk_ask a b = false

abbrev pub same_desk_reason : DeskRefusal → DeskRefusal → Bool
same_desk_reason desk_reasons.NoSuchTxn desk_reasons.NoSuchTxn = true
same_desk_reason (desk_reasons.Decided a) (desk_reasons.Decided b) = same_verdict a b
same_desk_reason desk_reasons.TooManyOps desk_reasons.TooManyOps = true
same_desk_reason (desk_reasons.BadEvidence a) (desk_reasons.BadEvidence b) = rule_number a == rule_number b
same_desk_reason desk_reasons.TooManyFiles desk_reasons.TooManyFiles = true
same_desk_reason a b = false

abbrev pub same_desk_reply : DeskReply → DeskReply → Bool
same_desk_reply (desk_replies.Txn a) (desk_replies.Txn b) = a == b
same_desk_reply (desk_replies.Verdict a) (desk_replies.Verdict b) = same_verdict a b
same_desk_reply (desk_replies.Committed a) (desk_replies.Committed b) = a == b
same_desk_reply (desk_replies.Refused a) (desk_replies.Refused b) = same_desk_reason a b
same_desk_reply a b = false
