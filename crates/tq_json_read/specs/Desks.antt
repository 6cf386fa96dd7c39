-- What a commit cites: grants, operations and votes. What the desk is asked, and what it replies.
use Rattle.std.specs.{Prelude.{ℕ, List, Option, Some, None, cond, codes, ◌==◌, option_map}, Str.bytes_eq}
use Rattle.serde_json.specs.Data.{Data}
use Rattle.tq_evidence.specs.declared.{grant.Grant.Grant, op.Op.Op, op.OpKind.OpKind, vote.Vote.Vote}
use Rattle.tq_evidence.specs.{declared.op.OpKind.TheVariants.{Read, Write}, Evidence.rule_at}
use Rattle.tq_store.specs.declared.write.Write as stored
use Rattle.tq_locks.specs.declared.mode.Mode.{Mode}
use Rattle.tq_asks.specs.declared.ask.HeldLock.{HeldLock}
use Rattle.tq_json.specs.declared.format.Format.{Format}
use Rattle.tq_json.specs.Member.{file_at, content_at, ◌>>=◌, text_at, number_at, items_at, each}
use Rattle.tq_json_read.specs.Locking.{mode_at, held_at, writes_at, verdict_at}
use Rattle.tq_asks.specs.declared.ask.Verdict as asks
use Rattle.tq_desk.specs.declared.ask.{DeskAsk.{DeskAsk, TheVariants.{Begin, Commit, Resolve}}, DeskRefusal.DeskRefusal}
use Rattle.tq_desk.specs.declared.ask.DeskReply.{DeskReply, TheVariants.{Txn, Verdict, Committed, Refused}}
use Rattle.tq_desk.specs.declared.ask.DeskRefusal.TheVariants.{NoSuchTxn, Decided, TooManyOps, BadEvidence, TooManyFiles}

abbrev pub grant_from : Option (List ℕ) → Option Mode → Option ℕ → Option ℕ → Option ℕ → Option Grant
grant_from content mode number server version = do
  mode ← mode
  number ← number
  server ← server
  version ← version
  content ← content
  Some (record { server = server; number = number; mode = mode; version = version; content = content })

abbrev pub grant : Format → Data → Option Grant
grant format value =
    grant_from (content_at format (codes "content") value) (mode_at value) (number_at (codes "number") value) (number_at (codes "server") value) (number_at (codes "version") value)

abbrev pub grants_at : Format → Data → Option (List Grant)
grants_at format value = do
  values ← items_at (codes "grants") value
  each (grant format) values

abbrev pub kind_of : List ℕ → Option OpKind
kind_of text =
    cond (bytes_eq text (codes "read")) (Some Read)
    (cond (bytes_eq text (codes "write")) (Some Write) None)

abbrev pub kind_at : Data → Option OpKind
kind_at value = do
  text ← text_at (codes "kind") value
  kind_of text

abbrev pub op_from : Option (List ℕ) → Option (List ℕ) → Option (List Grant) → Option OpKind → Option ℕ → Option Op
op_from content file grants kind version = do
  file ← file
  kind ← kind
  version ← version
  content ← content
  grants ← grants
  Some (record { file = file; kind = kind; version = version; content = content; grants = grants })

abbrev pub op : Format → Data → Option Op
op format value = op_from (content_at format (codes "content") value) (file_at (codes "file") value) (grants_at format value) (kind_at value) (number_at (codes "version") value)

abbrev pub ops_at : Format → Data → Option (List Op)
ops_at format value = do
  values ← items_at (codes "ops") value
  each (op format) values

abbrev pub vote_from : Option (List HeldLock) → Option ℕ → Option ℕ → Option (List stored.Write) → Option Vote
vote_from held number server writes = do
  number ← number
  server ← server
  held ← held
  writes ← writes
  Some (record { server = server; number = number; held = held; writes = writes })

abbrev pub vote : Format → Data → Option Vote
vote format value = vote_from (held_at value) (number_at (codes "number") value) (number_at (codes "server") value) (writes_at format value)

abbrev pub votes_at : Format → Data → Option (List Vote)
votes_at format value = do
  values ← items_at (codes "votes") value
  each (vote format) values

-- ---- desks

-- ---- asks

abbrev pub commit_ask : Option ℕ → Option (List Op) → Option (List Vote) → Option DeskAsk
commit_ask txn ops votes = do
  txn ← txn
  ops ← ops
  votes ← votes
  Some (Commit txn ops votes)

abbrev pub desk_ask_by : Option (List ℕ) → Option (List Op) → Option ℕ → Option (List Vote) → Option DeskAsk
desk_ask_by kind ops txn votes = do
  kind ← kind
  cond (bytes_eq kind (codes "begin")) (Some Begin)
      (cond (bytes_eq kind (codes "commit")) (commit_ask txn ops votes)
      (cond (bytes_eq kind (codes "resolve")) (option_map Resolve txn) None))

-- the ask of the desk that a value of the form is
abbrev pub desk_ask : Format → Data → Option DeskAsk
desk_ask format value = desk_ask_by (text_at (codes "is") value) (ops_at format value) (number_at (codes "txn") value) (votes_at format value)

-- ---- refusals

-- one of the six rules of evidence
abbrev pub bad_evidence : Option ℕ → Option DeskRefusal
bad_evidence number = do
  number ← number
  rule ← rule_at number
  Some (BadEvidence rule)

abbrev pub desk_refusal : Option ℕ → Option ℕ → Option asks.Verdict → Option DeskRefusal
desk_refusal code rule verdict = do
  code ← code
  cond (code == 21) (Some NoSuchTxn)
      (cond (code == 22) (option_map Decided verdict)
      (cond (code == 23) (bad_evidence rule)
      (cond (code == 24) (Some TooManyOps)
      (cond (code == 25) (Some TooManyFiles) None))))

-- ---- replies

abbrev pub desk_reply_by : Option (List ℕ) → Option ℕ → Option ℕ → Option ℕ → Option ℕ → Option asks.Verdict → Option DeskReply
desk_reply_by kind code rule serial txn verdict = do
  kind ← kind
  cond (bytes_eq kind (codes "txn")) (option_map Txn txn)
      (cond (bytes_eq kind (codes "committed")) (option_map Committed serial)
      (cond (bytes_eq kind (codes "verdict")) (option_map Verdict verdict)
      (cond (bytes_eq kind (codes "refused")) (option_map Refused (desk_refusal code rule verdict)) None)))

-- the reply of the desk that a value of the form is
abbrev pub desk_reply : Data → Option DeskReply
desk_reply value =
    desk_reply_by (text_at (codes "is") value) (number_at (codes "code") value) (number_at (codes "rule") value) (number_at (codes "serial") value) (number_at (codes "txn") value) (verdict_at value)
