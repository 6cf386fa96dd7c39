use Rattle.std.proofs.Common.{◌≡◌, ◌++◌, map, drop, string_bytes}
use Rattle.tq_tables.specs.Rows.{file_version}
use Rattle.tq_board_text.specs.Board.{words_after_spaces, write_text}
use Rattle.tq_board_text.proofs.word.push_writes.Given as goal

-- the text so far and the writes that are left are the whole text
abbrev pub invariant-loop-write : goal.invariant-loop-write
invariant-loop-write l =
    string_bytes l.text ++ words_after_spaces (map write_text (map file_version (drop l.write-index l.writes))) ≡ string_bytes l.initial.text ++ words_after_spaces (map write_text (map file_version l.writes))
