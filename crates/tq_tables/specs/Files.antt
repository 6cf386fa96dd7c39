-- The rows of files as they are kept, and how one of them changes. The servers that may have a copy of a file before a
-- commit of it is followed, so that it has no row.
use Rattle.std.specs.Prelude.{◌≡◌, ◌+◌, ◌≤◌, ℕ, Bool, true, false, cond, List, [], ◌∷◌, map, fold, slice_get, Option, Some, refl, length}
use Rattle.std.specs.{Coded.{Coded, code_by, coded×, coded_list, coded_ℕ}, List.{All, AllByRecursion}, Map.lookup}
use Rattle.indexmap.specs.IndexMap.{set_value_at}
use Rattle.tq_shape.specs.{Tree.Server, ServerSet.{Servers, set_with, set_without, has_number}}
use Rattle.tq_store.specs.{Copies.copy_of, Names.same_name, declared.write.Write.Write}
use Rattle.tq_asks.specs.declared.ask.NodeAsk.{NodeAsk}
use Rattle.tq_evidence.specs.declared.op.Op.{Op}
use Rattle.tq_desk.specs.declared.ask.{DeskAsk.DeskAsk, DeskReply.DeskReply}
use Rattle.tq_desk.specs.declared.ask.DeskAsk.TheVariants as asks
use Rattle.tq_desk.specs.declared.ask.DeskReply.TheVariants as replies
use Rattle.tq_node.specs.{Node.NodeView, Telling.{offered_files, raised_files}, declared.telling.Raised.Raised}
use Rattle.tq_tables.specs.{Tables.node_in, declared.file_row.FileRow.FileRow, declared.holders.Holders.Holders}
use Rattle.tq_tables.specs.Rows.{Apart, is_in, count_in, version_of, has_version, row_at, servers_where}

-- what callers see of a table of files: the levels of the tree of servers, the rows, and for how many files more there
-- is room with no memory asked for
pub record FilesView : Type 0 where
  pub levels : ℕ
  pub rows : List FileRow
  pub room : ℕ

-- the names of the files that have a row
abbrev pub names_in : List FileRow → List (List ℕ)
names_in rows = map (λ row. row.file) rows

-- the table has these rows, for a tree of so many levels
abbrev pub HasRows : FilesView → ℕ → List FileRow → Type 0
HasRows table levels rows = (table.levels ≡ levels) × (table.rows ≡ rows)

-- the sets of servers of the row, and of each row, are of the tree
abbrev pub IsOfLevels : ℕ → FileRow → Type 0
IsOfLevels levels row = (row.current.levels ≡ levels) × (row.stale.levels ≡ levels)

abbrev pub AreOfLevels : ℕ → List FileRow → Type 0
AreOfLevels levels rows = All (λ row. IsOfLevels levels row) rows

-- the row, and each row, is as the servers' copies of its file say, at the version that it says
abbrev pub IsExact : List NodeView → FileRow → Type 0
IsExact nodes row = row ≡ row_at row.current.levels nodes row.file row.version

abbrev pub AreExact : ℕ → List NodeView → List FileRow → Type 0
AreExact levels nodes rows = All (λ row. row ≡ row_at levels nodes row.file row.version) rows

-- each row stands under its name, no file has two, and the sets of servers are of the tree
pub record AreFiles (levels : ℕ) (entries : List (List ℕ × FileRow)) : Type 0 where
  pub named : entries ≡ map (λ row. (row.file, row)) (map (λ entry. entry.1) entries)
  pub apart : Apart (names_in (map (λ entry. entry.1) entries))
  pub of_tree : AreOfLevels levels (map (λ entry. entry.1) entries)

-- the rows under their names
abbrev pub by_file : List FileRow → List (List ℕ × FileRow)
by_file rows = map (λ row. (row.file, row)) rows

-- a row of the file stands at the place
abbrev pub HasRowAt : List (List ℕ × FileRow) → ℕ → List ℕ → Type 0
HasRowAt entries place file = (row : FileRow) × (slice_get entries place ≡ Some (file, row))

-- the row of a file, none where it has none
abbrev pub row_in : List FileRow → List ℕ → Option FileRow
row_in rows file = lookup (same_name file) (map (λ row. (row.file, row)) rows)

-- the version that a file's row says, 0 where it has none
abbrev pub version_in : List FileRow → List ℕ → ℕ
version_in rows file = count_in (map version_of rows) file

-- the row of a file after one commit more that writes it, by the row that it has, and by all rows
abbrev pub next_row : List NodeView → FileRow → FileRow
next_row nodes row = row_at row.current.levels nodes row.file (row.version + 1)

abbrev pub written_row : ℕ → List NodeView → List FileRow → List ℕ → FileRow
written_row levels nodes rows file = row_at levels nodes file (version_in rows file + 1)

-- the rows with this one, in the place of the one of its file, or at the end where there is none
abbrev pub with_row : List FileRow → FileRow → List FileRow
with_row [] row = row ∷ []
with_row (first ∷ rows) row = cond (same_name row.file first.file) (row ∷ rows) (first ∷ with_row rows row)

abbrev pub with_rows : List FileRow → List FileRow → List FileRow
with_rows rows more = fold with_row rows more

-- the files of writes
abbrev pub written_files : List Write → List (List ℕ)
written_files writes = map (λ write. write.file) writes

-- ---- a server's copy

-- the row with a server among the current ones, or else among the stale ones
abbrev pub row_after_move : Bool → ℕ → FileRow → FileRow
row_after_move true server row = record { file = row.file; version = row.version; current = set_with server row.current; stale = set_without server row.stale }
row_after_move false server row = record { file = row.file; version = row.version; current = set_without server row.current; stale = set_with server row.stale }

-- the row with a server where its copy of the file says
abbrev pub row_by_copy : NodeView → FileRow → FileRow
row_by_copy node row = row_after_move (has_version row.file row.version node) node.server row

-- the row with each of the servers where its copy says
abbrev pub stood_in : List NodeView → FileRow → List Server → FileRow
stood_in nodes row servers = fold (λ (r : FileRow) (server : Server). row_by_copy (node_in nodes server.number) r) row servers

-- that for one file alone
abbrev pub stood_at : NodeView → List ℕ → FileRow → FileRow
stood_at node file row = cond (same_name file row.file) (row_by_copy node row) row

-- the rows with a server where its copies of these files say
abbrev pub all_stood : NodeView → List FileRow → List (List ℕ) → List FileRow
all_stood node rows files = fold (λ all file. map (stood_at node file) all) rows files

-- that for the files of writes, for the one that a refresh offers, and for those that an ask raised
abbrev pub stood_written : NodeView → List FileRow → List Write → List FileRow
stood_written node rows writes = all_stood node rows (written_files writes)

abbrev pub stood_offered : NodeView → List FileRow → NodeAsk → List FileRow
stood_offered node rows ask = all_stood node rows (offered_files ask)

abbrev pub stood_raised : NodeView → List FileRow → NodeAsk → Raised → List FileRow
stood_raised node rows ask raised = all_stood node rows (raised_files ask raised)

-- the server's copy of each file written is of the version written, or of a later one
abbrev pub HoldsWritten : NodeView → List Write → Type 0
HoldsWritten node writes = AllByRecursion (λ write. write.version ≤ (copy_of node.state.records.copies write.file).version) writes

-- ---- the row at a place, if there is one

-- it is a row of the file, whatever the name that it stands under
abbrev pub IsFileAt : List (List ℕ × FileRow) → ℕ → List ℕ → Type 0
IsFileAt entries place file = (name : List ℕ) × (row : FileRow) × (slice_get entries place ≡ Some (name, row)) × (row.file ≡ file)

-- its sets of servers are of the server's tree
abbrev pub FitsRowAt : List (List ℕ × FileRow) → ℕ → NodeView → Type 0
FitsRowAt entries place node = (file : List ℕ) (row : FileRow) → slice_get entries place ≡ Some (file, row) → (node.levels ≡ row.current.levels) × (node.levels ≡ row.stale.levels)

-- it is the file's, the server stands there where its copy says, and nothing else changes
abbrev pub StandsAt : List (List ℕ × FileRow) → List (List ℕ × FileRow) → ℕ → List ℕ → NodeView → Type 0
StandsAt old new place file node = (name : List ℕ) × (row : FileRow) × (slice_get old place ≡ Some (name, row)) × (row.file ≡ file) × (new ≡ set_value_at old place (row_by_copy node row))

-- ---- what changes

-- the ops of the commit that an entry of the desk records, none where it records none
abbrev pub committed_ops : DeskAsk → DeskReply → List Op
committed_ops (asks.Commit txn ops votes) (replies.Committed serial) = ops
committed_ops ask reply = []

-- codes, by which a proof tells values apart
abbrev pub files_view_code : Coded FileRow → Coded FilesView
files_view_code row_code = code_by (ℕ × (List FileRow × ℕ)) (coded× coded_ℕ (coded× (coded_list row_code) coded_ℕ)) (λ f. (f.levels, (f.rows, f.room))) (λ p. record { levels = p.0; rows = p.1.0; room = p.1.1 }) (λ _. refl)

-- ---- early

-- the file has a row
abbrev pub has_row : List FileRow → List ℕ → Bool
has_row rows file = is_in file (names_in rows)

-- each of the files has one
abbrev pub HaveRows : List FileRow → List (List ℕ) → Type 0
HaveRows rows files = AllByRecursion (λ file. has_row rows file ≡ true) files

-- no server but those of these numbers has a copy of the file
abbrev pub OthersLack : List ℕ → List ℕ → List NodeView → Type 0
OthersLack file numbers nodes = All (λ node. has_number numbers node.server ≡ false → has_version file 1 node ≡ false) nodes

-- all servers, and some, of which is each that has a copy of a file with no row
pub record AreHolders (levels : ℕ) (nodes : List NodeView) (rows : List FileRow) (holders : Holders) : Type 0 where
  pub levels_are : holders.early.levels ≡ levels
  pub within : All (λ number. number ≤ length nodes) holders.early.numbers
  pub all : holders.all ≡ servers_where levels (λ node. true) nodes
  pub others : (file : List ℕ) → has_row rows file ≡ false → OthersLack file holders.early.numbers nodes

-- those after copies of files rose at a server; whether each of the files has a row
abbrev pub held_by : Bool → ℕ → Holders → Holders
held_by true server holders = holders
held_by false server holders = record { early = set_with server holders.early; all = holders.all }
