-- The text of the board: what an operator sees of the tables, beside the costs and marks of a view. The servers of a
-- file's row as text.
use Rattle.std.specs.Prelude.{◌≡◌, ℕ, ◌-◌, ◌^◌, Bool, true, false, List, [], ◌∷◌, ◌++◌, map, String, Option, Some, None, codes, slice_index_or, ◌&&◌, nat_eq}
use Rattle.std.specs.{List.flat_map, String.string_bytes, Fmt.decimal, Cmp.Lexicographic.pointwise, Borrow.Bor}
use Rattle.tq_live.specs.{Live.{Live, costs_of, is_up}, View.upwards, declared.{costs.Costs.Costs, least.Least.Least}}
use Rattle.tq_tables.specs.{Tables.TablesView, declared.quorum_rows.QuorumRow.QuorumRow, Rows.no_quorums}
use Rattle.tq_tables.specs.declared.{file_row.FileRow.FileRow, lock_rows.LockRow.LockRow}
use Rattle.tq_tables.specs.declared.intent_rows.{FileVersion.FileVersion, IntentRow.IntentRow, IntentState.IntentState}
use Rattle.tq_tables.specs.declared.intent_rows.IntentState.TheVariants.{Unknown, Undecided, Abort, Install, Discard}
use Rattle.tq_locks.specs.Locks.{mode_text}

-- these bytes were put behind the text
abbrev pub Appends : {Z : Type 0} → String Z → String Z → List ℕ → Type 0
Appends old new bytes = string_bytes new ≡ string_bytes old ++ bytes

-- a line ends with a line feed
abbrev pub as_line : List ℕ → List ℕ
as_line text = text ++ 10 ∷ []

-- ---- lists of words

-- each word after a space
abbrev pub words_after_spaces : List (List ℕ) → List ℕ
words_after_spaces words = flat_map (λ word. 32 ∷ word) words

-- the same, and a single `-` where there is no word
abbrev pub words_or_dash : List (List ℕ) → List ℕ
words_or_dash [] = words_after_spaces (codes "-" ∷ [])
words_or_dash (first ∷ rest) = words_after_spaces (first ∷ rest)

-- servers by their numbers
abbrev pub servers_text : List ℕ → List ℕ
servers_text numbers = words_or_dash (map decimal numbers)

-- a file and the version that a write makes of it
abbrev pub write_text : FileVersion → List ℕ
write_text write = write.file ++ codes ":" ++ decimal write.version

-- ---- words for marks, modes and states

abbrev pub mark_text : Bool → List ℕ
mark_text true = codes "up"
mark_text false = codes "down"

abbrev pub state_text : IntentState → List ℕ
state_text Unknown = codes "unknown"
state_text Undecided = codes "undecided"
state_text Abort = codes "abort"
state_text Install = codes "install"
state_text Discard = codes "discard"

-- ---- the lines

-- the cost and the servers of the least quorum of a subtree, where there is one
abbrev pub least_text : Option Least → List ℕ
least_text None = codes "none"
least_text (Some least) = decimal least.cost ++ codes " by" ++ servers_text least.servers.numbers

-- a server, and what it costs in a quorum that is read from and in one that is written to
abbrev pub costs_text : ℕ → Costs → List ℕ
costs_text server costs = codes "server " ++ decimal server ++ codes " cost " ++ decimal costs.read ++ codes " " ++ decimal costs.write

-- the least quorums of a subtree to read from and to write to
abbrev pub leasts_text : QuorumRow → List ℕ
leasts_text row = codes " read " ++ least_text row.read ++ codes " write " ++ least_text row.write

-- a server: its costs and its mark in the view, and the least quorums of its subtree
abbrev pub server_text : Live → QuorumRow → ℕ → List ℕ
server_text view row server =
    costs_text server (costs_of view server)
    ++ codes " " ++ mark_text (is_up view server)
    ++ leasts_text row

-- the line of a file as far as its servers
abbrev pub version_text : FileRow → List ℕ
version_text row =
    codes "file " ++ row.file ++ codes " version " ++ decimal row.version ++ codes " current"

abbrev pub file_text : FileRow → List ℕ
file_text row =
    codes "file " ++ row.file
    ++ codes " version " ++ decimal row.version
    ++ codes " current" ++ servers_text row.current.numbers
    ++ codes " stale" ++ servers_text row.stale.numbers

abbrev pub lock_text : LockRow → List ℕ
lock_text row =
    codes "lock " ++ decimal row.server.number
    ++ codes " " ++ row.file
    ++ codes " " ++ decimal row.txn
    ++ codes " " ++ mode_text row.mode
    ++ codes " since " ++ decimal row.since
    ++ codes " version " ++ decimal row.version

abbrev pub intent_text : IntentRow → List ℕ
intent_text row =
    codes "intent " ++ decimal row.server.number
    ++ codes " " ++ decimal row.txn
    ++ codes " number " ++ decimal row.number
    ++ codes " " ++ state_text row.state
    ++ words_or_dash (map write_text row.writes)

-- ---- the board

-- the row of a server in the quorums' table
abbrev pub row_of : TablesView → ℕ → QuorumRow
row_of tables server = slice_index_or tables.quorums (server - 1) no_quorums

-- the line of a server, with its row of the quorums' table
abbrev pub server_line : TablesView → Live → ℕ → List ℕ
server_line tables view server = as_line (server_text view (row_of tables server) server)

-- a line for each server upwards
abbrev pub server_lines : TablesView → Live → List ℕ
server_lines tables view = flat_map (server_line tables view) (upwards 1 (2 ^ tables.levels - 1))

-- a line for each file, for each lock and for each open intention
abbrev pub row_lines : List FileRow → List LockRow → List IntentRow → List ℕ
row_lines files locks intentions =
    flat_map (λ row. as_line (file_text row)) files
    ++ flat_map (λ row. as_line (lock_text row)) locks
    ++ flat_map (λ row. as_line (intent_text row)) intentions

-- the head, a line for each server, a line for each row, and the end
abbrev pub board_text : TablesView → Live → List ℕ
board_text tables view =
    as_line (codes "board levels " ++ decimal tables.levels)
    ++ server_lines tables view
    ++ row_lines tables.files tables.locks tables.intentions
    ++ as_line (codes "end")

-- ---- sets

-- the current and the stale servers of a file, as its line has them
abbrev pub sets_text : FileRow → List ℕ
sets_text row = servers_text row.current.numbers ++ codes " stale" ++ servers_text row.stale.numbers

-- both rows have the same current servers, and the same stale ones
abbrev pub have_same_sets : FileRow → FileRow → Bool
have_same_sets one other =
    pointwise nat_eq one.current.numbers other.current.numbers
    && pointwise nat_eq one.stale.numbers other.stale.numbers

-- the text is that of the row, where there is one
abbrev pub IsTextOf : Option (Bor FileRow) → List ℕ → Type 0
IsTextOf None text = Unit {0}
IsTextOf (Some row) text = text ≡ sets_text row.now
