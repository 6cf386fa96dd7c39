-- What contracts see of a server.
use Rattle.std.specs.Prelude.{◌≡◌, ℕ, Bool, true, false, List, [], Some, ◌+◌, refl}
use Rattle.std.specs.Coded.{Coded, code_by, coded×, coded_list, coded_ℕ, coded_bool}
use Rattle.std.specs.FinMap as fin
use Rattle.tq_shape.specs.Journal.{Has}
use Rattle.tq_store.specs.Copies.{Files, files_code}
use Rattle.tq_locks.specs.{Locks.{Locks, locks_code, only_stable}, declared.mode.Lock.Lock}
use Rattle.tq_intents.specs.Kept.{Votes, HasOneVoteEach, IsAbove, kept_copies, kept_votes, stable_lock}
use Rattle.tq_intents.specs.declared.record.{KeptLock.KeptLock, OpenVote.OpenVote, Record.Record}
use Rattle.tq_intents.specs.declared.record.Record.TheVariants as stable
use Rattle.tq_node.specs.Records.{Records, NodeState, node_after, node_reply, kept_records}
use Rattle.tq_asks.specs.declared.ask.{NodeAsk.NodeAsk, NodeReply.NodeReply}

pub record NodeView : Type 0 where
  -- the levels of its tree, and its number there
  pub levels : ℕ
  pub server : ℕ
  pub state : NodeState
  -- the number of the last ask answered
  pub last : ℕ

abbrev pub records_code : Coded OpenVote → Coded Records
records_code vote_code = code_by (Files × (Locks × (Votes × Bool))) (coded× files_code (coded× locks_code (coded× (fin.code coded_ℕ vote_code) coded_bool)))
    (λ r. (r.copies, (r.locks, (r.votes, r.down)))) (λ p. record { copies = p.0; locks = p.1.0; votes = p.1.1.0; down = p.1.1.1 }) (λ _. refl)

abbrev pub state_code : Coded Record → Coded OpenVote → Coded NodeState
state_code record_code vote_code = code_by (Records × List Record) (coded× (records_code vote_code) (coded_list record_code)) (λ s. (s.records, s.stable)) (λ p. record { records = p.0; stable = p.1 }) (λ _. refl)

abbrev pub node_code : Coded Record → Coded OpenVote → Coded NodeView
node_code record_code vote_code = code_by (ℕ × (ℕ × (NodeState × ℕ))) (coded× coded_ℕ (coded× coded_ℕ (coded× (state_code record_code vote_code) coded_ℕ))) (λ n. (n.levels, (n.server, (n.state, n.last)))) (λ p. record { levels = p.0; server = p.1.0; state = p.1.1.0; last = p.1.1.1 }) (λ _. refl)

-- the same server, where the last ask answered has this number
abbrev pub with_last : ℕ → NodeView → NodeView
with_last number old = record { levels = old.levels; server = old.server; state = old.state; last = number }

-- a server that is up and has stored nothing
abbrev pub opening_server : ℕ → ℕ → NodeView
opening_server levels server = record { levels = levels; server = server; state = record { records = record { copies = fin.empty; locks = fin.empty; votes = fin.empty; down = false }; stable = [] }; last = 0 }

-- the reply to an ask
abbrev pub reply_to_ask : NodeView → NodeAsk → NodeReply
reply_to_ask old ask = node_reply old.server old.state ask

-- the server after an ask
abbrev pub server_after : NodeView → ℕ → NodeAsk → NodeView
server_after old number ask = record { levels = old.levels; server = old.server; state = node_after old.server old.state number ask; last = number }

-- the stable list stands for the copies, the open votes and their locks
abbrev pub IsKept : NodeState → Type 0
IsKept state = kept_records state.stable ≡ record { copies = state.records.copies; locks = only_stable state.records.locks; votes = state.records.votes; down = true }

-- nothing is there but what the stable list keeps, as after a crash
abbrev pub HasOnlyKept : NodeState → Type 0
HasOnlyKept state = state.records ≡ kept_records state.stable

-- the stable locks of a table are the locks of the open votes
pub record LocksIn (locks : Locks) (votes : Votes) : Type 0 where
  pub stable_of : (file : List ℕ) (txn : ℕ) (lock : Lock) → fin.get locks (file, txn) ≡ Some lock → lock.stable ≡ true
      → (vote : OpenVote) × (fin.get votes txn ≡ Some vote) × ((kept : KeptLock) × Has vote.locks kept × (stable_lock txn kept ≡ ((file, txn), lock)))
  pub of_vote : (txn : ℕ) (vote : OpenVote) → fin.get votes txn ≡ Some vote → (kept : KeptLock) → Has vote.locks kept → fin.get locks (kept.file, txn) ≡ Some (stable_lock txn kept).1

-- what a server's type promises: the numbers in its records aren't above that of the last ask answered,
-- each open vote that they stand for is the one of its transaction, and the copies and the stable locks are those that they keep
pub record IsSound (stable : List Record) (last : ℕ) (files : Files) (table : Locks) : Type 0 where
  pub numbers : IsAbove (last + 1) stable
  pub one_each : HasOneVoteEach stable
  pub copies : kept_copies stable ≡ files
  pub locks : LocksIn table (kept_votes stable)
