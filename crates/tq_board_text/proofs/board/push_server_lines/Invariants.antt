use Rattle.std.{proofs.Common.{◌≡◌, ◌++◌, ◌-◌, string_bytes}, specs.List.flat_map}
use Rattle.tq_live.specs.View.{upwards}
use Rattle.tq_board_text.specs.Board.{server_line}
use Rattle.tq_board_text.proofs.board.push_server_lines.Given as goal

-- the text so far and the lines of the servers that are left are the text of all servers
abbrev pub invariant-loop-number : goal.invariant-loop-number
invariant-loop-number l = record {
  written : string_bytes l.text ++ flat_map (server_line l.tables l.view) (upwards l.number (l.past - l.number)) ≡ string_bytes l.initial.text ++ flat_map (server_line l.tables l.view) (upwards 1 (l.past - 1));
  room : l.room.servers.levels ≡ l.tables.levels;
}
