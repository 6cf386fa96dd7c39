-- What the bytes of a line of the shell ask for.
use Rattle.std.specs.Prelude.{ℕ, false, true, nat_lt, ◌==◌, cond, List, Option, Some, None, length, codes, option_map, option_and_then, unwrap_or}
use Rattle.std.specs.{Option.option_or, Str.bytes_eq}
use Rattle.tq_syntax.specs.Word.{word_of, rest_of, nothing_in, one_number, first_number, cost_words, chosen_for, file_of, written_of, visit_of}
use Rattle.tq_syntax.specs.declared.line.{Line.Line, TxnLine.TxnLine}
use Rattle.tq_syntax.specs.declared.line.Line.TheVariants.{Empty, Bad, Cost, Mark, Choose, Begin, Refresh, Board, Txn}
use Rattle.tq_syntax.specs.declared.line.TxnLine.TheVariants.{Read, Write, Prepare, Decide, Apply, Commit, Abort, Resolve, PrepareCrash, ApplyCrash}

-- a vote that the server finishes, or in which it crashes
abbrev pub prepare_at : ℕ → Option ℕ → TxnLine
prepare_at server None = Prepare server
prepare_at server (Some after) = PrepareCrash server after

-- likewise where it is told the verdict
abbrev pub apply_at : ℕ → Option ℕ → TxnLine
apply_at server None = Apply server
apply_at server (Some after) = ApplyCrash server after

-- a line of a transaction, whose number stands behind the verb and is left out here, other than a write
abbrev pub step_by : List ℕ → Option (List ℕ) → Option TxnLine
step_by verb rest =
    cond (bytes_eq verb (codes "read")) (option_map (λ file. Read file) (file_of rest))
    (cond (bytes_eq verb (codes "prepare")) (option_map (λ v. prepare_at v.server v.crash) (visit_of rest))
    (cond (bytes_eq verb (codes "apply")) (option_map (λ v. apply_at v.server v.crash) (visit_of rest))
    (cond (bytes_eq verb (codes "decide")) (option_map (λ nothing. Decide) (nothing_in rest))
    (cond (bytes_eq verb (codes "commit")) (option_map (λ nothing. Commit) (nothing_in rest))
    (cond (bytes_eq verb (codes "abort")) (option_map (λ nothing. Abort) (nothing_in rest))
    (cond (bytes_eq verb (codes "resolve")) (option_map (λ nothing. Resolve) (nothing_in rest)) None))))))

abbrev pub txn_line_by : List ℕ → Option (List ℕ) → Option TxnLine
txn_line_by verb rest = cond (bytes_eq verb (codes "write")) (option_map (λ w. Write w.file w.content) (written_of rest)) (step_by verb rest)

-- a line of the transaction that it numbers
abbrev pub txn_by : List ℕ → Option (List ℕ) → Option Line
txn_by verb rest = option_and_then (λ n. option_map (λ line. Txn n.0 line) (txn_line_by verb n.1)) (first_number rest)

-- a line that concerns no transaction
abbrev pub operator_by : List ℕ → Option (List ℕ) → Option Line
operator_by verb rest =
    cond (bytes_eq verb (codes "choose")) (option_map (λ purpose. Choose purpose) (chosen_for rest))
    (cond (bytes_eq verb (codes "begin")) (option_map (λ nothing. Begin) (nothing_in rest))
    (cond (bytes_eq verb (codes "cost")) (option_map (λ c. Cost c.server c.read c.write) (cost_words rest))
    (cond (bytes_eq verb (codes "down")) (option_map (λ server. Mark server false) (one_number rest))
    (cond (bytes_eq verb (codes "up")) (option_map (λ server. Mark server true) (one_number rest))
    (cond (bytes_eq verb (codes "refresh")) (option_map (λ nothing. Refresh) (nothing_in rest))
    (cond (bytes_eq verb (codes "board")) (option_map (λ nothing. Board) (nothing_in rest)) None))))))

abbrev pub line_by : List ℕ → Option (List ℕ) → Option Line
line_by verb rest = option_or (operator_by verb rest) (txn_by verb rest)

-- a line without a byte is empty; another that has no form of a line is a bad one
abbrev pub short_line : List ℕ → Line
short_line bytes = cond (length bytes == 0) Empty (unwrap_or (line_by (word_of bytes) (rest_of bytes)) Bad)

-- a line of more bytes than the limit is a bad line
abbrev pub line_of : List ℕ → Line
line_of bytes = cond (nat_lt 4200 (length bytes)) Bad (short_line bytes)
