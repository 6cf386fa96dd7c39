-- What the bytes of a line of client scripts ask for: what a client says, or that the next client's script begins.
use Rattle.std.specs.Prelude.{ℕ, nat_lt, ◌==◌, cond, List, Option, None, length, codes, option_map, unwrap_or}
use Rattle.std.specs.Str.{bytes_eq}
use Rattle.tq_syntax.specs.Word.{word_of, rest_of, nothing_in, one_number, cost_words, chosen_for, file_of, written_of}
use Rattle.tq_syntax.specs.declared.{script.Line.Line, client.ClientLine.ClientLine}
use Rattle.tq_syntax.specs.declared.script.Line.TheVariants.{Cost, Down, Up, Choose, Begin, Read, Write, Commit, Abort}
use Rattle.tq_syntax.specs.declared.client.ClientLine.TheVariants.{Empty, Bad, Client, Said}

-- what a client says, other than a write; the lines of its one transaction name none
abbrev pub short_by : List ℕ → Option (List ℕ) → Option Line
short_by verb rest =
    cond (bytes_eq verb (codes "read")) (option_map (λ file. Read file) (file_of rest))
    (cond (bytes_eq verb (codes "begin")) (option_map (λ nothing. Begin) (nothing_in rest))
    (cond (bytes_eq verb (codes "commit")) (option_map (λ nothing. Commit) (nothing_in rest))
    (cond (bytes_eq verb (codes "abort")) (option_map (λ nothing. Abort) (nothing_in rest))
    (cond (bytes_eq verb (codes "choose")) (option_map (λ purpose. Choose purpose) (chosen_for rest))
    (cond (bytes_eq verb (codes "cost")) (option_map (λ c. Cost c.server c.read c.write) (cost_words rest))
    (cond (bytes_eq verb (codes "down")) (option_map (λ server. Down server) (one_number rest))
    (cond (bytes_eq verb (codes "up")) (option_map (λ server. Up server) (one_number rest)) None)))))))

abbrev pub said_by : List ℕ → Option (List ℕ) → Option Line
said_by verb rest = cond (bytes_eq verb (codes "write")) (option_map (λ w. Write w.file w.content) (written_of rest)) (short_by verb rest)

abbrev pub client_by : Option (List ℕ) → Option ClientLine
client_by rest = option_map (λ nothing. Client) (nothing_in rest)

abbrev pub line_by : List ℕ → Option (List ℕ) → Option ClientLine
line_by verb rest = cond (bytes_eq verb (codes "client")) (client_by rest) (option_map (λ line. Said line) (said_by verb rest))

-- a line without a byte is empty; another that has no form of a line is a bad one
abbrev pub short_line : List ℕ → ClientLine
short_line bytes = cond (length bytes == 0) Empty (unwrap_or (line_by (word_of bytes) (rest_of bytes)) Bad)

-- a line of more bytes than the limit is a bad line
abbrev pub client_line_of : List ℕ → ClientLine
client_line_of bytes = cond (nat_lt 4200 (length bytes)) Bad (short_line bytes)
