-- A line feed after a text changes nothing of what is read. Names and hexadecimal digits stand in a quoted text as
-- they are.
-- The text of a value, with a line feed after it, is read as the value. The text of a value has no line feed, and is a
-- line with one behind it.
use Rattle.std.proofs.Common.{◌≡◌, ℕ, Bool, true, false, cond, ◌&&◌, List, [], ◌∷◌, ◌++◌, refl, sym, ap, ap₂, ◌∙◌, append_assoc, zero, suc, ◌-◌, inl, inr, eq-zero-or-pos, ◌/◌, ◌%◌, ◌<◌, ◌≤◌, IsTrue, arith, Option, Some, option_and_then, append-nil, ◌^◌, ◌+◌, nat_lt, map, subst}
use Rattle.std.proofs.lemmas.{Bool.Decides.nat_tests, List.get_or_past, Str.Ascii.{IsAscii-cons, IsAscii-nil}}
use Rattle.std.proofs.lemmas.Fmt.{decimal-digits_of, decimal_digit}
use Rattle.std.specs.{Prelude.{nat_le, length, slice_index, decimal}, List.list_all, Str.IsAscii, Char.digit_char}
use Rattle.json.specs.{Token.{Token, begin_object, key, string, number, boolean, null, bad}, Word.{ends_word, word}}
use Rattle.json.specs.Lex.{Lexeme, token, comma, colon, string_token, lex, between, fresh, punctuate, tokens}
use Rattle.json.specs.Print.{escape, quoted, token_text, begins, ends, separator, print_from, print, IsPrintable, ArePrintable, escape_byte, escape_letter}
use Rattle.json.proofs.Printed.{Strings.{content-escape, lex-escape, escape_byte_plain}, Tokens.tokens-print}
use Rattle.json.proofs.Printed.{Numbers.{lex-number, in_word-ended}, Decimals.IsNumber-decimal}
use Rattle.json.proofs.Printed.Trees.{value-json_tokens, ArePrintable-json_tokens}
use Rattle.hex.{specs.Hex.{encode_with, encode_lower, lower_digits, IsBytes}, proofs.HexLemmas.IsAscii-encode_with}
use Rattle.tq_store.specs.Names.{is_name_byte, is_file_name, starts_with_letter}
use Rattle.json.specs.Json as json
use Rattle.json.specs.Tree as tree
use Rattle.serde_json.specs.Data.{unsigned, negative, float, Data, null, boolean, number, string, array, object, Items, no_items, item, Members, no_members, member, put}
use Rattle.serde_json.specs.Read.{read, of_json, of_items, of_members, max_depth}
use Rattle.serde_json.specs.Written.{outline, items_outline, members_outline, compact_text, items_text, members_text, comma_if}
use Rattle.serde_json.proofs.{Numbers.number_of-decimal, Texts.print-outline}
use Rattle.tq_board.specs.{Values.{IsFitting, AreFitting, HasFitting}, Lines.{HasNoFeed, IsLine, line_of}}
use Rattle.tq_board.proofs.Shapes.{IsShaped, AreShaped, HasShaped, put_all}

abbrev lexemes_of : Token → List Lexeme
lexemes_of (key s) = token (string s) ∷ colon ∷ []
lexemes_of bad = []
lexemes_of t = token t ∷ []

-- after a value stands a comma, a closing bracket, nothing or the line feed
ends_there : (ts : List Token) → ends_word (print_from true ts) ≡ true
unfolding print_from
ends_there [] = refl
ends_there (begin_object ∷ ts) = refl
ends_there (_ ∷ ts) = refl

ends_before_line : (ts : List Token) → ends_word (print_from true ts ++ 10 ∷ []) ≡ true
unfolding print_from
ends_before_line [] = refl
ends_before_line (begin_object ∷ ts) = refl
ends_before_line (_ ∷ ts) = refl

lex-string : (s r : List ℕ) → lex between (quoted s ++ r) ≡ token (string s) ∷ lex between r
unfolding lex
lex-string s r =
    let e = append_assoc (escape s) (34 ∷ []) r in
    ap (λ l. lex between (34 ∷ l)) e ∙ ap₂ (λ o l. token (string_token o) ∷ l) (content-escape s r) (lex-escape s r)

lex-token : (t : Token) (r : List ℕ) → IsPrintable t → (ends t ≡ true → ends_word r ≡ true) → lex between (token_text t ++ r) ≡ lexemes_of t ++ lex between r
unfolding lex word
lex-token (key s) r h ended = ap (lex between) (append_assoc (quoted s) (58 ∷ []) r) ∙ lex-string s (58 ∷ r)
lex-token (string s) r h ended = lex-string s r
lex-token (number s) r h ended = lex-number s r h (ended refl)
lex-token (boolean true) r h ended = ap₂ (λ b l. token (cond b (boolean true) bad) ∷ l) (ended refl) (in_word-ended r (ended refl))
lex-token (boolean false) r h ended = ap₂ (λ b l. token (cond b (boolean false) bad) ∷ l) (ended refl) (in_word-ended r (ended refl))
lex-token null r h ended = ap₂ (λ b l. token (cond b null bad) ∷ l) (ended refl) (in_word-ended r (ended refl))
lex-token bad r h ended = absurd h
lex-token _ r h ended = refl

lex-comma : (b : Bool) (r : List ℕ) → lex between (cond b (44 ∷ []) [] ++ r) ≡ cond b (comma ∷ []) [] ++ lex between r
unfolding lex
lex-comma true r = refl
lex-comma false r = refl

-- the lexemes of a token after its comma, whatever follows
lex-part : (c : Bool) (t : Token) (r : List ℕ) → IsPrintable t → (ends t ≡ true → ends_word r ≡ true)
    → lex between (separator c t ++ (token_text t ++ r)) ≡ cond (c && begins t) (comma ∷ []) [] ++ (lexemes_of t ++ lex between r)
lex-part c t r h ended = lex-comma (c && begins t) _ ∙ ap (λ l. cond (c && begins t) (comma ∷ []) [] ++ l) (lex-token t r h ended)

lex-line : (c : Bool) (ts : List Token) → ArePrintable ts → lex between (print_from c ts ++ 10 ∷ []) ≡ lex between (print_from c ts)
unfolding lex print_from ArePrintable
lex-line c [] h = refl
lex-line c (t ∷ ts) h =
    let rest = print_from (ends t) ts in
    ap (lex between) (append_assoc (separator c t) _ (10 ∷ []) ∙ ap (λ l. separator c t ++ l) (append_assoc (token_text t) rest (10 ∷ [])))
    ∙ lex-part c t (rest ++ 10 ∷ []) h.0 (λ e. ap (λ b. ends_word (print_from b ts ++ 10 ∷ [])) e ∙ ends_before_line ts)
    ∙ ap (λ l. cond (c && begins t) (comma ∷ []) [] ++ (lexemes_of t ++ l)) (lex-line (ends t) ts h.1)
    ∙ sym (lex-part c t rest h.0 (λ e. ap (λ b. ends_word (print_from b ts)) e ∙ ends_there ts))

-- the tokens that were printed, before a line feed
pub tokens-line : (ts : List Token) → ArePrintable ts → tokens (print ts ++ 10 ∷ []) ≡ ts
tokens-line ts h = ap (punctuate fresh) (lex-line false ts h) ∙ tokens-print ts h

-- ---- plain

-- a byte of a name is ASCII, and neither a quote, a backslash nor a control
small : (c : ℕ) → is_name_byte c ≡ true → c < 128
small c h = grind (arith, nat_tests, h)

quote : (c : ℕ) → is_name_byte c ≡ true → c ≡ 34 → ⊥
quote c h e = grind (arith, nat_tests, h, e)

backslash : (c : ℕ) → is_name_byte c ≡ true → c ≡ 92 → ⊥
backslash c h e = grind (arith, nat_tests, h, e)

control : (c : ℕ) → is_name_byte c ≡ true → 32 ≤ c
control c h = grind (arith, nat_tests, h)

name_byte-escaped : (c : ℕ) → is_name_byte c ≡ true → escape_byte c ≡ c ∷ []
name_byte-escaped c h = escape_byte_plain c (quote c h) (backslash c h) (control c h)

both : (a b : Bool) → (a && b) ≡ true → (a ≡ true) × (b ≡ true)
both a b h = grind (arith, nat_tests, h)

name_bytes : (name : List ℕ) → IsTrue (is_file_name name) → list_all is_name_byte name ≡ true
name_bytes name h =
    let front = (both (starts_with_letter name && list_all is_name_byte name) (nat_le (length name) 32) h).0 in
    (both (starts_with_letter name) (list_all is_name_byte name) front).1

bytes-escaped : (bytes : List ℕ) → list_all is_name_byte bytes ≡ true → escape bytes ≡ bytes
bytes-escaped [] h = refl
bytes-escaped (c ∷ rest) h =
    let parts = both (is_name_byte c) (list_all is_name_byte rest) h in
    λ i. name_byte-escaped c parts.0 i ++ bytes-escaped rest parts.1 i

bytes-ascii : (bytes : List ℕ) → list_all is_name_byte bytes ≡ true → IsAscii bytes
bytes-ascii [] h = IsAscii-nil
bytes-ascii (c ∷ rest) h =
    let parts = both (is_name_byte c) (list_all is_name_byte rest) h in
    IsAscii-cons c rest (small c parts.0) (bytes-ascii rest parts.1)

pub name-escaped : (name : List ℕ) → IsTrue (is_file_name name) → escape name ≡ name
name-escaped name h = bytes-escaped name (name_bytes name h)

pub name-ascii : (name : List ℕ) → IsTrue (is_file_name name) → IsAscii name
name-ascii name h = bytes-ascii name (name_bytes name h)

pub name-short : (name : List ℕ) → IsTrue (is_file_name name) → length name ≤ 32
name-short name h = let few = (both (starts_with_letter name && list_all is_name_byte name) (nat_le (length name) 32) h).1 in grind (arith, nat_tests, few)

-- hexadecimal digits are bytes that a name may have, too
abbrev are_plain : ℕ → Bool
are_plain zero = true
are_plain (suc n) = is_name_byte (slice_index lower_digits n) && are_plain n

plain_below : (most n : ℕ) → are_plain most ≡ true → n < most → is_name_byte (slice_index lower_digits n) ≡ true
plain_below zero n t h = absurd (omega arith)
plain_below (suc most) n t h =
    let parts = both (is_name_byte (slice_index lower_digits most)) (are_plain most) t in
    elim (eq-zero-or-pos (most - n)) [
      | inl z ↦ let e : n ≡ most = omega arith in rw e parts.0
      | inr g ↦ plain_below most n parts.1 (omega arith)
    ]

digits-plain : (bytes : List ℕ) → IsBytes bytes → list_all is_name_byte (encode_lower bytes) ≡ true
unfolding encode_with
digits-plain [] h = refl
digits-plain (b ∷ rest) h =
    let byte = h 0 in
    let high : b / 16 < 16 = omega (arith, byte) in
    let low : b % 16 < 16 = omega arith in
    rw (plain_below 16 (b / 16) refl high, plain_below 16 (b % 16) refl low) (digits-plain rest (λ i. h (suc i)))

pub digits-escaped : (bytes : List ℕ) → IsBytes bytes → escape (encode_lower bytes) ≡ encode_lower bytes
digits-escaped bytes h = bytes-escaped (encode_lower bytes) (digits-plain bytes h)

lower-ascii : IsAscii lower_digits
lower-ascii n =
    elim (eq-zero-or-pos (16 - n)) [
      | inl z ↦ let past = get_or_past lower_digits n 0 (omega arith) in rw past (omega arith)
      | inr g ↦ small _ (plain_below 16 n refl (omega arith))
    ]

pub digits-ascii : (bytes : List ℕ) → IsAscii (encode_lower bytes)
digits-ascii bytes = IsAscii-encode_with lower_digits bytes lower-ascii

-- ---- the text of a value

-- what the reader makes of what the grammar took
abbrev whole : Option (json.Json × List Token) → Option Data
whole o = option_and_then of_json (option_and_then (λ p. json.if_last p.0 p.1) o)

mutual
  of_json-outline : (value : Data) (levels : ℕ) → IsShaped value levels → IsFitting value → of_json (outline value) ≡ Some value
  of_json-outline null levels h f = refl
  of_json-outline (boolean b) levels h f = refl
  of_json-outline (number (unsigned n)) levels h f = rw (number_of-decimal n f)
  of_json-outline (number (negative z)) levels h f = absurd f
  of_json-outline (number (float x)) levels h f = absurd f
  of_json-outline (string s) levels h f = refl
  of_json-outline (array values) levels h f = rw (of_items-outline values (levels - 1) h.1 f)
  of_json-outline (object members) levels h f = rw (of_members-outline members (levels - 1) no_members h.1 f, h.2)

  of_items-outline : (values : Items) (levels : ℕ) → AreShaped values levels → AreFitting values → of_items (items_outline values) ≡ Some values
  of_items-outline no_items levels h f = refl
  of_items-outline (item value rest) levels h f = rw (of_json-outline value levels h.0 f.0, of_items-outline rest levels h.1 f.1)

  of_members-outline : (members : Members) (levels : ℕ) (found : Members) → HasShaped members levels → HasFitting members → of_members (members_outline members) found ≡ Some (put_all members found)
  of_members-outline no_members levels found h f = refl
  of_members-outline (member name value rest) levels found h f = rw (of_json-outline value levels h.0 f.0) (of_members-outline rest levels (put name value found) h.1 f.1)

mutual
  has_numbers : (value : Data) → IsFitting value → tree.HasNumbers (outline value)
  has_numbers null f = tt
  has_numbers (boolean b) f = tt
  has_numbers (number (unsigned n)) f = IsNumber-decimal n f
  has_numbers (number (negative z)) f = absurd f
  has_numbers (number (float x)) f = absurd f
  has_numbers (string s) f = tt
  has_numbers (array values) f = items_have_numbers values f
  has_numbers (object members) f = members_have_numbers members f

  items_have_numbers : (values : Items) → AreFitting values → tree.ItemsHaveNumbers (items_outline values)
  items_have_numbers no_items f = tt
  items_have_numbers (item value rest) f = (has_numbers value f.0, items_have_numbers rest f.1)

  members_have_numbers : (members : Members) → HasFitting members → tree.MembersHaveNumbers (members_outline members)
  members_have_numbers no_members f = tt
  members_have_numbers (member name value rest) f = (has_numbers value f.0, members_have_numbers rest f.1)

mutual
  nests : (value : Data) (levels : ℕ) → IsShaped value levels → IsFitting value → tree.depth (outline value) ≤ levels
  nests null levels h f = omega arith
  nests (boolean b) levels h f = omega arith
  nests (number n) levels h f = omega arith
  nests (string s) levels h f = omega arith
  nests (array values) levels h f = omega (arith, h.0, items_nest values (levels - 1) h.1 f)
  nests (object members) levels h f = omega (arith, h.0, members_nest members (levels - 1) h.1 f)

  items_nest : (values : Items) (levels : ℕ) → AreShaped values levels → AreFitting values → tree.items_depth (items_outline values) ≤ levels
  items_nest no_items levels h f = omega arith
  items_nest (item value rest) levels h f = omega (arith, nests value levels h.0 f.0, items_nest rest levels h.1 f.1)

  members_nest : (members : Members) (levels : ℕ) → HasShaped members levels → HasFitting members → tree.members_depth (members_outline members) ≤ levels
  members_nest no_members levels h f = omega arith
  members_nest (member name value rest) levels h f = omega (arith, nests value levels h.0 f.0, members_nest rest levels h.1 f.1)

pub read-line : (value : Data) → IsShaped value max_depth → IsFitting value → read (compact_text value ++ 10 ∷ []) ≡ Some value
read-line value h f =
    let parts = tree.json_tokens (outline value) in
    let lexed : tokens (compact_text value ++ 10 ∷ []) ≡ parts =
    ap (λ text. tokens (text ++ 10 ∷ [])) (sym (print-outline value)) ∙ tokens-line parts (ArePrintable-json_tokens (outline value) (has_numbers value f)) in
    ap whole (ap (json.value max_depth) (lexed ∙ sym (append-nil parts)) ∙ value-json_tokens (outline value) max_depth [] (nests value max_depth h f))
    ∙ of_json-outline value max_depth h f

-- ---- unbroken

other : (byte : ℕ) → 10 < byte → byte ≡ 10 → ⊥
other byte above is = omega (arith, above, is)

pub no-feed-append : (xs ys : List ℕ) → HasNoFeed xs → HasNoFeed ys → HasNoFeed (xs ++ ys)
no-feed-append [] ys p q = q
no-feed-append (x ∷ xs) ys p q = (p.0, no-feed-append xs ys p.1 q)

digits : (ds : List ℕ) → HasNoFeed (map (λ d. 48 + d) ds)
digits [] = tt
digits (d ∷ ds) = (λ is. omega (arith, is), digits ds)

decimal-unbroken : (n : ℕ) → n < 2 ^ 64 → HasNoFeed (decimal n)
decimal-unbroken zero fits = subst HasNoFeed (sym (decimal_digit 0 (omega arith))) (other 48 (omega arith), tt)
decimal-unbroken (suc n) fits = subst HasNoFeed (sym (decimal-digits_of (suc n) (omega arith) fits)) (digits _)

letter : (x : ℕ) → escape_letter x ≡ 10 → ⊥
letter x is = grind (arith, nat_tests, is)

digit : (d : ℕ) → digit_char d ≡ 10 → ⊥
digit d is = grind (arith, nat_tests, is)

plain : (x : ℕ) → nat_lt x 32 ≡ false → x ≡ 10 → ⊥
plain x high is = grind (arith, nat_tests, high, is)

by_tests : (x : ℕ) (short control : Bool) → nat_lt x 32 ≡ control → HasNoFeed (cond short (92 ∷ escape_letter x ∷ []) (cond control (92 ∷ 117 ∷ 48 ∷ 48 ∷ digit_char (x / 16) ∷ digit_char (x % 16) ∷ []) (x ∷ [])))
by_tests x true control e = (other 92 (omega arith), (letter x, tt))
by_tests x false true e = (other 92 (omega arith), (other 117 (omega arith), (other 48 (omega arith), (other 48 (omega arith), (digit (x / 16), (digit (x % 16), tt))))))
by_tests x false false e = (plain x e, tt)

escape-unbroken : (bytes : List ℕ) → HasNoFeed (escape bytes)
unfolding escape_byte
escape-unbroken [] = tt
escape-unbroken (x ∷ bytes) = no-feed-append (escape_byte x) (escape bytes) (by_tests x (nat_lt 0 (escape_letter x)) (nat_lt x 32) refl) (escape-unbroken bytes)

quoted-unbroken : (bytes : List ℕ) → HasNoFeed (quoted bytes)
quoted-unbroken bytes = (other 34 (omega arith), no-feed-append (escape bytes) (34 ∷ []) (escape-unbroken bytes) (other 34 (omega arith), tt))

comma-unbroken : (later : Bool) → HasNoFeed (comma_if later)
comma-unbroken true = (other 44 (omega arith), tt)
comma-unbroken false = tt

mutual
  pub text-unbroken : (value : Data) → IsFitting value → HasNoFeed (compact_text value)
  text-unbroken null f = (other 110 (omega arith), (other 117 (omega arith), (other 108 (omega arith), (other 108 (omega arith), tt))))
  text-unbroken (boolean true) f = (other 116 (omega arith), (other 114 (omega arith), (other 117 (omega arith), (other 101 (omega arith), tt))))
  text-unbroken (boolean false) f = (other 102 (omega arith), (other 97 (omega arith), (other 108 (omega arith), (other 115 (omega arith), (other 101 (omega arith), tt)))))
  text-unbroken (number (unsigned n)) f = decimal-unbroken n f
  text-unbroken (number (negative z)) f = absurd f
  text-unbroken (number (float x)) f = absurd f
  text-unbroken (string s) f = quoted-unbroken s
  text-unbroken (array values) f = (other 91 (omega arith), items-unbroken false values f)
  text-unbroken (object members) f = (other 123 (omega arith), members-unbroken false members f)

  items-unbroken : (later : Bool) (values : Items) → AreFitting values → HasNoFeed (items_text later values)
  items-unbroken later no_items f = (other 93 (omega arith), tt)
  items-unbroken later (item value rest) f =
      no-feed-append (comma_if later) _ (comma-unbroken later) (no-feed-append (compact_text value) (items_text true rest) (text-unbroken value f.0) (items-unbroken true rest f.1))

  members-unbroken : (later : Bool) (members : Members) → HasFitting members → HasNoFeed (members_text later members)
  members-unbroken later no_members f = (other 125 (omega arith), tt)
  members-unbroken later (member name value rest) f =
      no-feed-append (comma_if later) _ (comma-unbroken later)
      (no-feed-append (quoted name) _ (quoted-unbroken name)
      (other 58 (omega arith), no-feed-append (compact_text value) (members_text true rest) (text-unbroken value f.0) (members-unbroken true rest f.1)))

pub is-line : (value : Data) (text : List ℕ) → IsFitting value → text ≡ line_of value → IsLine text
is-line value text fits is = record { bytes = compact_text value; unbroken = text-unbroken value fits; ended = is }
