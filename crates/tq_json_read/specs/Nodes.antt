-- What servers are asked. What servers reply.
use Rattle.std.specs.{Prelude.{nat_le, ℕ, List, Option, Some, None, option_map, cond, codes, ◌==◌}, Str.bytes_eq}
use Rattle.serde_json.specs.{Data.Data, Find.get}
use Rattle.tq_asks.specs.declared.ask.{CitedVote.CitedVote, NodeAsk.NodeAsk, WorkAsk.WorkAsk, HeldLock.HeldLock}
use Rattle.tq_asks.specs.declared.ask.{NodeAsk.TheVariants.{Work, Crash, Return, CrashIn}, NodeRefusal.NodeRefusal}
use Rattle.tq_asks.specs.declared.ask.WorkAsk.TheVariants.{Lock, Prepare, Decide, Release, Peek, Refresh}
use Rattle.tq_asks.specs.declared.ask.NodeRefusal.TheVariants.{Down, AlreadyUp, AlreadyDown, Held, Prepared, NotLocked, BadWrites, NotNewer, NothingHere}
use Rattle.tq_asks.specs.declared.ask.NodeReply.{NodeReply}
use Rattle.tq_asks.specs.declared.ask.NodeReply.TheVariants.{Granted, Yes, Installed, Discarded, Released, Copy, Refreshed, Crashed, Returned, Refused}
use Rattle.tq_json.specs.{declared.format.Format.Format, Member.{file_at, content_at, ◌>>=◌, text_at, number_at}}
use Rattle.tq_json_read.specs.declared.{node_ask.WorkMembers.WorkMembers, node_reply.ReplyMembers.ReplyMembers}
use Rattle.tq_json_read.specs.Locking.{mode_at, writes_at, verdict_at, citation, held_at}
use Rattle.tq_store.specs.declared.write.Write.{Write}

abbrev pub lock : WorkMembers → Option WorkAsk
lock members = do
  file ← members.file
  mode ← members.mode
  txn ← members.txn
  Some (Lock mode txn file)

abbrev pub prepare : WorkMembers → Option WorkAsk
prepare members = do
  txn ← members.txn
  writes ← members.writes
  Some (Prepare txn writes)

abbrev pub decide : WorkMembers → Option WorkAsk
decide members = do
  cite ← members.cite
  txn ← members.txn
  verdict ← members.verdict
  Some (Decide txn verdict cite)

-- the entry of another server where the copy was seen
abbrev pub from_at : Data → Option CitedVote
from_at value = do
  cited ← get (codes "from") value
  citation cited

abbrev pub refresh : WorkMembers → Option WorkAsk
refresh members = do
  file ← members.file
  seen ← members.from
  version ← members.version
  content ← members.content
  Some (Refresh file version content seen)

abbrev pub small_work : List ℕ → WorkMembers → Option WorkAsk
small_work kind members =
    cond (bytes_eq kind (codes "lock")) (lock members)
    (cond (bytes_eq kind (codes "prepare")) (prepare members)
    (cond (bytes_eq kind (codes "decide")) (decide members)
    (cond (bytes_eq kind (codes "release")) (option_map Release members.txn)
    (cond (bytes_eq kind (codes "peek")) (option_map Peek members.file) None))))

abbrev pub work_by : Option (List ℕ) → WorkMembers → Option WorkAsk
work_by kind members = do
  kind ← kind
  cond (bytes_eq kind (codes "refresh")) (refresh members) (small_work kind members)

abbrev pub work : Option (List ℕ) → WorkMembers → Option NodeAsk
work kind members = do
  ask ← work_by kind members
  Some (Work ask)

-- behind how many records a server stops: a number of 32 bits
abbrev pub count_of : Option ℕ → Option ℕ
count_of slot = do
  after ← slot
  cond (nat_le after 4294967295) (Some after) None

-- what stands in work, but for its kind
abbrev pub work_members : Format → Data → WorkMembers
work_members format value = record {
  cite = number_at (codes "cite") value;
  content = content_at format (codes "content") value;
  file = file_at (codes "file") value;
  from = from_at value;
  mode = mode_at value;
  txn = number_at (codes "txn") value;
  verdict = verdict_at value;
  version = number_at (codes "version") value;
  writes = writes_at format value;
}

-- the work that a value is, one of the six
abbrev pub work_at : Format → Data → Option WorkAsk
work_at format value = work_by (text_at (codes "is") value) (work_members format value)

-- in which work a server stops, and behind how many of its records
abbrev pub stop : Option ℕ → Option WorkAsk → Option NodeAsk
stop slot inside = do
  after ← count_of slot
  ask ← inside
  Some (CrashIn after ask)

abbrev pub node_by : Option (List ℕ) → Option ℕ → Option WorkAsk → WorkMembers → Option NodeAsk
node_by kind after inside members = do
  kind ← kind
  cond (bytes_eq kind (codes "crash")) (Some Crash)
      (cond (bytes_eq kind (codes "return")) (Some Return)
      (cond (bytes_eq kind (codes "crashin")) (stop after inside) (work (Some kind) members)))

-- the ask of a server that a value of the form is
abbrev pub node_ask : Format → Data → Option NodeAsk
node_ask format value = node_by (text_at (codes "is") value) (number_at (codes "after") value) (get (codes "ask") value >>= work_at format) (work_members format value)

-- ---- node replies

abbrev pub granted_reply : Option ℕ → Option (List ℕ) → Option NodeReply
granted_reply version content = do
  version ← version
  content ← content
  Some (Granted version content)

abbrev pub copy : Option ℕ → Option (List ℕ) → Option NodeReply
copy version content = do
  version ← version
  content ← content
  Some (Copy version content)

abbrev pub yes_vote : Option (List HeldLock) → Option (List Write) → Option NodeReply
yes_vote held writes = do
  held ← held
  writes ← writes
  Some (Yes held writes)

-- ---- refusals

-- the refusals that tell no more than their code
abbrev pub code_refusal : ℕ → Option NodeRefusal
code_refusal code =
    cond (code == 11) (Some Down)
    (cond (code == 12) (Some AlreadyUp)
    (cond (code == 13) (Some AlreadyDown)
    (cond (code == 15) (Some Prepared)
    (cond (code == 17) (Some BadWrites)
    (cond (code == 18) (Some NotNewer)
    (cond (code == 19) (Some NothingHere) None))))))

abbrev pub refusal : Option ℕ → Option ℕ → Option (List ℕ) → Option NodeRefusal
refusal code by file = do
  code ← code
  cond (code == 14) (option_map Held by) (cond (code == 16) (option_map NotLocked file) (code_refusal code))

abbrev pub refused : Option ℕ → Option ℕ → Option (List ℕ) → Option NodeReply
refused code by file = do
  refusal ← refusal code by file
  Some (Refused refusal)

-- ---- replies

-- the replies without further members
abbrev pub bare_reply : List ℕ → Option NodeReply
bare_reply kind =
    cond (bytes_eq kind (codes "installed")) (Some Installed)
    (cond (bytes_eq kind (codes "discarded")) (Some Discarded)
    (cond (bytes_eq kind (codes "released")) (Some Released)
    (cond (bytes_eq kind (codes "refreshed")) (Some Refreshed)
    (cond (bytes_eq kind (codes "crashed")) (Some Crashed)
    (cond (bytes_eq kind (codes "returned")) (Some Returned) None)))))

abbrev pub reply_by : Option (List ℕ) → ReplyMembers → Option NodeReply
reply_by kind members = do
  kind ← kind
  cond (bytes_eq kind (codes "granted")) (granted_reply members.version members.content)
      (cond (bytes_eq kind (codes "yes")) (yes_vote members.held members.writes)
      (cond (bytes_eq kind (codes "copy")) (copy members.version members.content)
      (cond (bytes_eq kind (codes "refused")) (refused members.code members.by members.file) (bare_reply kind))))

-- the reply of a server that a value of the form is
abbrev pub node_reply : Format → Data → Option NodeReply
node_reply format value = reply_by (text_at (codes "is") value) (record {
  by = number_at (codes "by") value;
  code = number_at (codes "code") value;
  content = content_at format (codes "content") value;
  file = file_at (codes "file") value;
  held = held_at value;
  version = number_at (codes "version") value;
  writes = writes_at format value;
})
