-- The rows of the tables, over the raw records of the servers, the costs and marks, and the log of the desk. The state
-- of a vote by what the desk keeps. A walk of the open votes. How many commits write each file, as it is counted one
-- commit after another. Lists of names in which none stands twice.
use Rattle.std.specs.Prelude.{ℕ, ◌-◌, ◌^◌, Bool, not, cond, nat_le, List, [], ◌∷◌, ◌++◌, map, filter, Option, Some, None, slice_index_or, sum_by, ◌==◌, ◌+◌, fold, ◌≡◌, false}
use Rattle.std.specs.{List.{flat_map, list_any}, Option.{option_map, unwrap_or}, Cmp.Lexicographic.pointwise}
use Rattle.std.specs.Map.{lookup}
use Rattle.std.specs.FinMap as fin
use Rattle.tq_shape.specs.{Tree.Server, ServerSet.Servers}
use Rattle.tq_store.specs.{Copies.copy_of, declared.write.Write.Write, Names.same_name}
use Rattle.tq_locks.specs.{Locks.LockKey, declared.mode.Lock.Lock}
use Rattle.tq_intents.specs.declared.record.OpenVote.{OpenVote}
use Rattle.tq_node.specs.Node.{NodeView}
use Rattle.tq_asks.specs.{Verdicts.cites_vote, declared.ask.Verdict.Verdict}
use Rattle.tq_asks.specs.declared.ask.Verdict.TheVariants as verdicts
use Rattle.tq_desk.specs.{DeskStep.{with_files, DeskView, is_begun}, DecisionLog.{is_txn, is_written}}
use Rattle.tq_desk.specs.DeskJournal.{Commit, DeskEntry, commits, count, final}
use Rattle.tq_live.specs.{Live.{Live, best, cost_of}, View.upwards, declared.purpose.Purpose.Purpose}
use Rattle.tq_live.specs.declared.least.Least.{Least}
use Rattle.tq_live.specs.declared.purpose.Purpose.TheVariants as purposes
use Rattle.tq_tables.specs.declared.{file_row.FileRow.FileRow, lock_rows.LockRow.LockRow, intent_rows.VotesAt.VotesAt}
use Rattle.tq_tables.specs.declared.{quorum_rows.QuorumRow.QuorumRow, intent_rows.FileVersion.FileVersion}
use Rattle.tq_tables.specs.declared.intent_rows.{IntentRow.IntentRow, IntentState.IntentState, OpenIntent.OpenIntent}
use Rattle.tq_tables.specs.declared.intent_rows.IntentState.TheVariants.{Unknown, Undecided, Abort, Install, Discard}
use Rattle.indexmap.specs.IndexMap.{insert_entry}
use Rattle.tq_evidence.specs.declared.op.Op.{Op}

-- a server as the tree has it
abbrev pub server_of : NodeView → Server
server_of node = record { number = node.server; levels = node.levels }

-- ---- the least quorums

-- a least quorum of these servers of the tree, with its cost for the purpose
abbrev pub least_of : Live → Purpose → List ℕ → Least
least_of live purpose servers =
    record { cost = sum_by (cost_of live purpose) servers; servers = record { levels = live.levels; numbers = servers } }

-- the best of the server's subtree for the purpose, as cost and servers; none where there is none
abbrev pub least_row : Live → Purpose → ℕ → Option Least
least_row live purpose server = option_map (least_of live purpose) (best live purpose server)

-- the best of the server's subtree to read from, and the best to write to
abbrev pub quorum_row : Live → ℕ → QuorumRow
quorum_row live server = record { read = least_row live purposes.Read server; write = least_row live purposes.Write server }

-- for each server upwards
abbrev pub quorum_rows : Live → List QuorumRow
quorum_rows live = map (quorum_row live) (upwards 1 (2 ^ live.levels - 1))

-- a row that was written, none where nothing was found
abbrev pub row_if : Bool → Least → Option Least
row_if found row = cond found (Some row) None

-- ---- the files that commits write (a list of commits has the newest first)

-- what is seen of a place behind the last row
abbrev pub no_quorums : QuorumRow
no_quorums = record { read = None; write = None }

-- the least quorum for a purpose
abbrev pub least_for : Purpose → QuorumRow → Option Least
least_for purposes.Read row = row.read
least_for purposes.Write row = row.write

-- the least quorum for a purpose in the server's row, of rows for each server upwards
abbrev pub least_in : List QuorumRow → Purpose → ℕ → Option Least
least_in rows purpose server = least_for purpose (slice_index_or rows (server - 1) no_quorums)

-- the files that a commit writes, ascending by name
abbrev pub files_of : Commit → List (List ℕ)
files_of commit = fin.keys (with_files fin.empty commit.ops)

-- the files that commits write: those of the earlier commits, and then those of the newest that no earlier one writes
abbrev pub files_in : List Commit → List (List ℕ)
files_in [] = []
files_in (commit ∷ earlier) = files_in earlier ++ filter (λ file. not (is_written earlier file)) (files_of commit)

-- the server's copy of the file is of that version or a later one
abbrev pub has_version : List ℕ → ℕ → NodeView → Bool
has_version file version node = nat_le version (copy_of node.state.records.copies file).version

-- those of the servers that pass a test
abbrev pub servers_where : ℕ → (NodeView → Bool) → List NodeView → Servers
servers_where levels test nodes = record { levels = levels; numbers = map (λ node. node.server) (filter test nodes) }

-- a file of this version: the servers whose copy is of that version or later, and all others
abbrev pub row_at : ℕ → List NodeView → List ℕ → ℕ → FileRow
row_at levels nodes file version =
    record {
      file = file;
      version = version;
      current = servers_where levels (has_version file version) nodes;
      stale = servers_where levels (λ node. not (has_version file version node)) nodes;
    }

-- a file's version is the number of commits that write it
abbrev pub file_row : ℕ → List NodeView → List Commit → List ℕ → FileRow
file_row levels nodes commits file = row_at levels nodes file (count file commits)

abbrev pub file_rows : ℕ → List NodeView → List Commit → List FileRow
file_rows levels nodes commits = map (file_row levels nodes commits) (files_in commits)

-- ---- the locks

abbrev pub lock_row : NodeView → LockKey × Lock → LockRow
lock_row node entry =
    record {
      server = server_of node;
      file = entry.0.0;
      txn = entry.0.1;
      mode = entry.1.mode;
      since = entry.1.since;
      version = entry.1.version;
    }

-- those of each server upwards, ascending by file and then by transaction
abbrev pub lock_rows : List NodeView → List LockRow
lock_rows nodes = flat_map (λ node. map (lock_row node) (fin.entries node.state.records.locks)) nodes

-- ---- the open intentions

-- what the end of its transaction says of the vote that an entry of a server gave
abbrev pub state_by : Option Verdict → ℕ → ℕ → IntentState
state_by None server number = Undecided
state_by (Some verdicts.Abort) server number = Abort
state_by (Some (verdicts.Commit votes)) server number = cond (cites_vote (verdicts.Commit votes) server number) Install Discard

-- unknown where the transaction was never begun; or else as its end in the log, the newest entry first
abbrev pub intent_state : List DeskEntry → ℕ → ℕ → ℕ → IntentState
intent_state log server txn number = cond (is_txn log txn) (state_by (final log txn) server number) Unknown

abbrev pub file_version : Write → FileVersion
file_version write = record { file = write.file; version = write.version }

-- an open vote of a server, where its state is given by the server, its transaction and its number
abbrev pub intent_row : (ℕ → ℕ → ℕ → IntentState) → Server → ℕ × OpenVote → IntentRow
intent_row state server entry =
    record {
      server = server;
      txn = entry.0;
      number = entry.1.number;
      writes = map file_version entry.1.writes;
      state = state server.number entry.0 entry.1.number;
    }

-- open votes of a server
abbrev pub intents_of : (ℕ → ℕ → ℕ → IntentState) → Server → List (ℕ × OpenVote) → List IntentRow
intents_of state server votes = map (intent_row state server) votes

-- the open votes of each server upwards, ascending by transaction
abbrev pub intent_rows : (ℕ → ℕ → ℕ → IntentState) → List NodeView → List IntentRow
intent_rows state nodes = flat_map (λ node. intents_of state (server_of node) (fin.entries node.state.records.votes)) nodes

-- ---- desk states

abbrev pub intent_state_at : DeskView → ℕ → ℕ → ℕ → IntentState
intent_state_at desk server txn number = cond (is_begun desk txn) (state_by (fin.get desk.finals txn) server number) Unknown

-- the open votes of the servers, each in the state that the desk says
abbrev pub intent_rows_at : DeskView → List NodeView → List IntentRow
intent_rows_at desk nodes = intent_rows (intent_state_at desk) nodes

-- ---- walk

-- the row of an open vote whose writes are lent
abbrev pub lent_row : OpenIntent → IntentRow
lent_row intent =
    record {
      server = intent.server;
      txn = intent.txn;
      number = intent.number;
      writes = map file_version intent.writes.now;
      state = intent.state;
    }

-- the rows of the votes of a server that are left to walk, none where there is no server
abbrev pub left_at : (ℕ → ℕ → ℕ → IntentState) → Option VotesAt → List IntentRow
left_at state None = []
left_at state (Some here) = intents_of state here.server here.votes

-- ---- counted

-- the files that ops write, ascending by name
abbrev pub names_of : List Op → List (List ℕ)
names_of ops = fin.keys (with_files fin.empty ops)

-- the files that the commits write, each with the number of those that do
abbrev pub commit_counts : List Commit → List (List ℕ × ℕ)
commit_counts commits = map (λ file. (file, count file commits)) (files_in commits)

-- the number that a file has among these, 0 where it is not among them
abbrev pub count_in : List (List ℕ × ℕ) → List ℕ → ℕ
count_in counts file = unwrap_or (lookup (pointwise (◌==◌) file) counts) 0

-- one more for the file
abbrev pub with_one : List (List ℕ × ℕ) → List ℕ → List (List ℕ × ℕ)
with_one counts file = insert_entry (pointwise (◌==◌)) counts file (count_in counts file + 1)

-- one more for each of the files
abbrev pub with_each : List (List ℕ × ℕ) → List (List ℕ) → List (List ℕ × ℕ)
with_each counts files = fold with_one counts files

-- what a row says of its file
abbrev pub version_of : FileRow → List ℕ × ℕ
version_of row = (row.file, row.version)

-- ---- names apart

-- the name is in the list
abbrev pub is_in : List ℕ → List (List ℕ) → Bool
is_in name names = list_any (same_name name) names

-- none stands twice
abbrev pub Apart : List (List ℕ) → Type 0
Apart [] = Unit {0}
Apart (name ∷ names) = (is_in name names ≡ false) × Apart names
