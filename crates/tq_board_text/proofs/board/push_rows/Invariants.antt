use Rattle.std.{proofs.Common.{◌≡◌, ◌++◌, drop, string_bytes}, specs.List.flat_map}
use Rattle.tq_board_text.specs.Board.{as_line, file_text, lock_text, intent_text}
use Rattle.tq_board_text.proofs.board.push_rows.Given as goal

-- the text so far and the lines of the rows that are left are the text of all rows
abbrev pub invariant-loop-row : goal.invariant-loop-row
invariant-loop-row l =
    string_bytes l.text ++ flat_map (λ row. as_line (file_text row)) (drop l.row-index l.files) ≡ string_bytes l.initial.text ++ flat_map (λ row. as_line (file_text row)) l.files

abbrev pub invariant-loop-lock : goal.invariant-loop-lock
invariant-loop-lock l =
    string_bytes l.text ++ flat_map (λ row. as_line (lock_text row)) (drop l.lock-index l.locks) ≡ string_bytes l.initial.text ++ flat_map (λ row. as_line (lock_text row)) l.locks

abbrev pub invariant-loop-intent : goal.invariant-loop-intent
invariant-loop-intent l =
    string_bytes l.text ++ flat_map (λ row. as_line (intent_text row)) l.intent-iterator ≡ string_bytes l.initial.text ++ flat_map (λ row. as_line (intent_text row)) l.initial.intent-iterator
