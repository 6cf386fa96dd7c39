use Rattle.std.{proofs.Common.{◌≡◌, ◌++◌, map, string_bytes}, specs.Fmt.decimal}
use Rattle.tq_coterie.specs.Coterie.{numbers_of}
use Rattle.tq_board_text.specs.Board.{words_after_spaces}
use Rattle.tq_board_text.proofs.word.push_set.Given as goal

-- the text so far and the numbers that are left are the whole text
abbrev pub invariant-loop-server : goal.invariant-loop-server
invariant-loop-server l =
    string_bytes l.text ++ words_after_spaces (map decimal (numbers_of l.server-iterator)) ≡ string_bytes l.initial.text ++ words_after_spaces (map decimal (numbers_of l.initial.server-iterator))
