-- What servers are asked and what they reply, as values.
use Rattle.std.specs.Prelude.{ℕ, List, codes}
use Rattle.serde_json.specs.Data.{Data, object, member, no_members, string}
use Rattle.tq_store.specs.declared.write.Write.{Write}
use Rattle.tq_locks.specs.{Locks.mode_text, declared.mode.Mode.Mode}
use Rattle.tq_asks.specs.declared.ask.{CitedVote.CitedVote, HeldLock.HeldLock, NodeAsk.NodeAsk, NodeRefusal.NodeRefusal}
use Rattle.tq_asks.specs.declared.ask.{NodeAsk.TheVariants.{Work, Crash, Return, CrashIn}, NodeReply.NodeReply}
use Rattle.tq_asks.specs.declared.ask.NodeRefusal.TheVariants.{Down, AlreadyUp, AlreadyDown, Held, Prepared, NotLocked, BadWrites, NotNewer, NothingHere}
use Rattle.tq_asks.specs.declared.ask.NodeReply.TheVariants.{Granted, Yes, Installed, Discarded, Released, Copy, Refreshed, Crashed, Returned, Refused}
use Rattle.tq_asks.specs.declared.ask.{Verdict.Verdict, Verdict.TheVariants.{Abort, Commit}, WorkAsk.WorkAsk}
use Rattle.tq_asks.specs.declared.ask.WorkAsk.TheVariants.{Lock, Prepare, Decide, Release, Peek, Refresh}
use Rattle.tq_node.specs.NodeJournal.{NodeEntry}
use Rattle.tq_board.specs.Values.{whole, content_value, list_value, kind_value, code_value, entry_value}

abbrev pub mode_value : Mode → Data
mode_value mode = string (mode_text mode)

abbrev pub cited_value : CitedVote → Data
cited_value vote =
    object (member (codes "number") (whole vote.number)
    (member (codes "server") (whole vote.server) no_members))

abbrev pub write_value : Write → Data
write_value write =
    object (member (codes "content") (content_value write.content)
    (member (codes "file") (string write.file)
    (member (codes "version") (whole write.version) no_members)))

abbrev pub held_value : HeldLock → Data
held_value lock =
    object (member (codes "file") (string lock.file)
    (member (codes "mode") (mode_value lock.mode)
    (member (codes "since") (whole lock.since) no_members)))

abbrev pub verdict_value : Verdict → Data
verdict_value Abort = kind_value (codes "abort")
verdict_value (Commit votes) =
    object (member (codes "is") (string (codes "commit"))
    (member (codes "votes") (list_value cited_value votes) no_members))

-- ---- asks

abbrev pub work_value : WorkAsk → Data
work_value (Lock mode txn file) =
    object (member (codes "file") (string file)
    (member (codes "is") (string (codes "lock"))
    (member (codes "mode") (mode_value mode)
    (member (codes "txn") (whole txn) no_members))))
work_value (Prepare txn writes) =
    object (member (codes "is") (string (codes "prepare"))
    (member (codes "txn") (whole txn)
    (member (codes "writes") (list_value write_value writes) no_members)))
work_value (Decide txn verdict cite) =
    object (member (codes "cite") (whole cite)
    (member (codes "is") (string (codes "decide"))
    (member (codes "txn") (whole txn)
    (member (codes "verdict") (verdict_value verdict) no_members))))
work_value (Release txn) =
    object (member (codes "is") (string (codes "release"))
    (member (codes "txn") (whole txn) no_members))
work_value (Peek file) =
    object (member (codes "file") (string file)
    (member (codes "is") (string (codes "peek")) no_members))
work_value (Refresh file version content from) =
    object (member (codes "content") (content_value content)
    (member (codes "file") (string file)
    (member (codes "from") (cited_value from)
    (member (codes "is") (string (codes "refresh"))
    (member (codes "version") (whole version) no_members)))))

abbrev pub node_ask_value : NodeAsk → Data
node_ask_value (Work work) = work_value work
node_ask_value Crash = kind_value (codes "crash")
node_ask_value Return = kind_value (codes "return")
node_ask_value (CrashIn after work) =
    object (member (codes "after") (whole after)
    (member (codes "ask") (work_value work)
    (member (codes "is") (string (codes "crashin")) no_members)))

-- ---- replies

abbrev pub node_refusal_value : NodeRefusal → Data
node_refusal_value Down = code_value 11
node_refusal_value AlreadyUp = code_value 12
node_refusal_value AlreadyDown = code_value 13
node_refusal_value (Held by) =
    object (member (codes "by") (whole by)
    (member (codes "code") (whole 14)
    (member (codes "is") (string (codes "refused")) no_members)))
node_refusal_value Prepared = code_value 15
node_refusal_value (NotLocked file) =
    object (member (codes "code") (whole 16)
    (member (codes "file") (string file)
    (member (codes "is") (string (codes "refused")) no_members)))
node_refusal_value BadWrites = code_value 17
node_refusal_value NotNewer = code_value 18
node_refusal_value NothingHere = code_value 19

-- a copy that is told, in a reply of this kind
abbrev pub copy_value : List ℕ → ℕ → List ℕ → Data
copy_value kind version content =
    object (member (codes "content") (content_value content)
    (member (codes "is") (string kind)
    (member (codes "version") (whole version) no_members)))

abbrev pub node_reply_value : NodeReply → Data
node_reply_value (Granted version content) = copy_value (codes "granted") version content
node_reply_value (Yes held writes) =
    object (member (codes "held") (list_value held_value held)
    (member (codes "is") (string (codes "yes"))
    (member (codes "writes") (list_value write_value writes) no_members)))
node_reply_value Installed = kind_value (codes "installed")
node_reply_value Discarded = kind_value (codes "discarded")
node_reply_value Released = kind_value (codes "released")
node_reply_value (Copy version content) = copy_value (codes "copy") version content
node_reply_value Refreshed = kind_value (codes "refreshed")
node_reply_value Crashed = kind_value (codes "crashed")
node_reply_value Returned = kind_value (codes "returned")
node_reply_value (Refused refusal) = node_refusal_value refusal

abbrev pub node_entry_value : NodeEntry → Data
node_entry_value = entry_value node_ask_value node_reply_value
