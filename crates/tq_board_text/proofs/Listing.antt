-- A number behind a text, digit by digit. Lists of words, and lines of servers upwards.
use Rattle.std.proofs.Common.{◌≡◌, ℕ, ◌+◌, ◌/◌, ◌%◌, ◌^◌, ◌<◌, ◌≤◌, List, [], ◌∷◌, ◌++◌, append_assoc, sym, ap, ◌∙◌, suc, ◌-◌, map, refl, arith}
use Rattle.std.proofs.lemmas.{Fmt.{decimal_digit, decimal_step}, List.append-nil}
use Rattle.std.specs.{Prelude.{Result, Ok, Err, OnOk, is_ok, if◌then◌else◌}, Fmt.decimal, List.flat_map}
use Rattle.tq_shape.specs.{Tree.Server, ServerSet.servers_of_numbers}
use Rattle.tq_coterie.specs.Coterie.{numbers_of}
use Rattle.tq_live.specs.{Live.Live, View.upwards}
use Rattle.tq_tables.specs.Tables.{TablesView}
use Rattle.tq_board_text.specs.Board.{words_after_spaces, words_or_dash, server_line, servers_text}

-- the push of the only digit answers r
pub one_digit : {T E : Type 0} (r : Result T E) (text after last : List ℕ) (number : ℕ) → number < 10 → last ≡ (48 + number) ∷ []
    → after ≡ (if is_ok r then text ++ last else text) → OnOk r (after ≡ text ++ decimal number)
one_digit (Ok x) text after last number few is pushed = pushed ∙ ap (λ digits. text ++ digits) (is ∙ sym (decimal_digit number few))
one_digit (Err e) text after last number few is pushed = tt

-- the push of the last of more digits does
pub last_digit : {T E : Type 0} (r : Result T E) (text middle after last : List ℕ) (number : ℕ) → 10 ≤ number → number < 2 ^ 64 → middle ≡ text ++ decimal (number / 10) → last ≡ (48 + number % 10) ∷ []
    → after ≡ (if is_ok r then middle ++ last else middle) → OnOk r (after ≡ text ++ decimal number)
last_digit (Ok x) text middle after last number many fits before is pushed =
    pushed ∙ (λ i. before i ++ is i) ∙ append_assoc text (decimal (number / 10)) ((48 + number % 10) ∷ []) ∙ ap (λ digits. text ++ digits) (sym (decimal_step number many fits))
last_digit (Err e) text middle after last number many fits before is pushed = tt

-- all digits, behind a space
pub spaced_digits : {T E : Type 0} (r : Result T E) (text spaced after : List ℕ) (number : ℕ) → spaced ≡ text ++ 32 ∷ [] → OnOk r (after ≡ spaced ++ decimal number) → OnOk r (after ≡ text ++ 32 ∷ decimal number)
spaced_digits (Ok x) text spaced after number first pushed = pushed ∙ ap (λ begun. begun ++ decimal number) first ∙ append_assoc text (32 ∷ []) (decimal number)
spaced_digits (Err e) text spaced after number first pushed = tt

-- ---- listing

-- where there is a word, no `-` is printed
pub listed_words : {A : Type 0} (word : A → List ℕ) (items : List A) → (items ≡ [] → ⊥) → words_or_dash (map word items) ≡ words_after_spaces (map word items)
listed_words word [] some = absurd (some refl)
listed_words word (first ∷ rest) some = refl

-- the servers of a set have its numbers
numbers_of-numbered : (levels : ℕ) (numbers : List ℕ) → numbers_of (servers_of_numbers levels numbers) ≡ numbers
numbers_of-numbered levels [] = refl
numbers_of-numbered levels (first ∷ rest) = ap (λ more. first ∷ more) (numbers_of-numbered levels rest)

-- a set whose last server was written
pub set_written : (text old : List ℕ) (left servers : List Server) (levels : ℕ) (numbers : List ℕ) → text ++ words_after_spaces (map decimal (numbers_of left)) ≡ old ++ words_after_spaces (map decimal (numbers_of servers)) → left ≡ [] → servers ≡ servers_of_numbers levels numbers → (numbers ≡ [] → ⊥) → text ≡ old ++ servers_text numbers
set_written text old left servers levels numbers all none are some =
    sym (append-nil text)
    ∙ ap (λ left. text ++ words_after_spaces (map decimal (numbers_of left))) (sym none)
    ∙ all
    ∙ ap (λ servers. old ++ words_after_spaces (map decimal (numbers_of servers))) are
    ∙ ap (λ numbers. old ++ words_after_spaces (map decimal numbers)) (numbers_of-numbered levels numbers)
    ∙ ap (λ words. old ++ words) (sym (listed_words decimal numbers some))

-- a number, and those behind it
upwards_step : (number past : ℕ) → number < past → upwards number (past - number) ≡ number ∷ upwards (number + 1) (past - (number + 1))
upwards_step number past before =
    let more : past - number ≡ suc (past - (number + 1)) = omega arith in
    ap (upwards number) more

-- one more line was written, and the lines behind it are left
pub line_written : (line : ℕ → List ℕ) (text next total : List ℕ) (number past : ℕ) → number < past → text ++ flat_map line (upwards number (past - number)) ≡ total → next ≡ text ++ line number → next ++ flat_map line (upwards (number + 1) (past - (number + 1))) ≡ total
line_written line text next total number past before all is =
    let left = flat_map line (upwards (number + 1) (past - (number + 1))) in
    ap (λ next. next ++ left) is ∙ append_assoc text (line number) left ∙ sym (ap (λ numbers. text ++ flat_map line numbers) (upwards_step number past before)) ∙ all

-- the line of a server, from the tree of the view and its number
pub server_line_is : (tables : TablesView) (view tree : Live) (server number : ℕ) (text next : List ℕ) → next ≡ text ++ server_line tables tree server → tree ≡ view → server ≡ number → next ≡ text ++ server_line tables view number
server_line_is tables view tree server number text next is live same =
    is
    ∙ ap (λ tree. text ++ server_line tables tree server) live
    ∙ ap (λ server. text ++ server_line tables view server) same
