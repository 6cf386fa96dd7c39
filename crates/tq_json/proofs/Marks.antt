-- What `punctuate` gives, by the first lexeme of the text.
use Rattle.std.proofs.Common.{⊎_elim, ◌||◌, ◌≡◌, ◌≢◌, ℕ, Bool, true, false, cond, ◌==◌, List, [], ◌∷◌, take, drop, Option, Some, None, ◌⊎◌, inl, inr, refl, sym, ap, ◌∙◌, subst}
use Rattle.std.proofs.lemmas.Bool.{true≢false, false≢true, eqb-true, eq-eqb, or_cases, or_parts}
use Rattle.std.specs.Prelude.{⊤, IsTrue}
use Rattle.json.specs.Token.{Token, begin_object, end_object, begin_array, end_array, key, string, number, boolean, null, bad}
use Rattle.json.specs.{Text.{content, plain}, Align.is_blank, Json.after_end_array}
use Rattle.json.specs.Word.{is_operator, is_space, head, ends_word, after_number, number_before, word}
use Rattle.json.specs.Lex.{Lexeme, token, comma, colon, Class, quote, backslash, operator, space, other, class, operator_lexeme, string_token, between, lex, Place, fresh, after_value, after_comma, after_key, begins_colon, may_begin, may_close, if_allowed, place_token, punctuate}
use Rattle.tq_json.specs.Plain.{IsAtLexeme, IsQuoted, IsCounted, tokens_at, tokens_of, closes_at, begins_at, goes_at, NotBeforeComma}
use Rattle.tq_json.specs.declared.reader.Place.TheVariants.{Fresh, AfterValue, AfterComma, Failed}
use Rattle.tq_json.proofs.Lexemes.{lex_first, lex-nil, six}
use Rattle.tq_json.specs.declared.reader.Place as reader

abbrev pub rest : List ℕ → List Lexeme
rest t = drop 1 (lex between t)

pub at_operator : (c : ℕ) (t : List ℕ) → class c ≡ operator → head t ≡ c → lex between t ≡ operator_lexeme c ∷ rest t
at_operator c t k e = lex_first operator t (ap class e ∙ k) refl ∙ ap (λ x. operator_lexeme x ∷ rest t) e

pub at_string : (t : List ℕ) (o : Option (List ℕ)) → head t ≡ 34 → content plain (drop 1 t) ≡ o → lex between t ≡ token (string_token o) ∷ rest t
at_string t o e found = lex_first quote t (ap class e) refl ∙ ap (λ r. token (string_token r) ∷ rest t) found

-- ---- a word is a number, a literal or bad

abbrev pub IsWord : Token → Type 0
IsWord begin_object = ⊥
IsWord end_object = ⊥
IsWord begin_array = ⊥
IsWord end_array = ⊥
IsWord (key s) = ⊥
IsWord (string s) = ⊥
IsWord (number s) = ⊤
IsWord (boolean v) = ⊤
IsWord null = ⊤
IsWord bad = ⊤

either : (b : Bool) (x y : Token) → IsWord x → IsWord y → IsWord (cond b x y)
either true x y p q = p
either false x y p q = q

number_word : (t : List ℕ) (o : Option (List ℕ)) → IsWord (number_before t o)
number_word t None = tt
number_word t (Some r) = either (ends_word r) _ bad tt tt

pub IsWord-word : (t : List ℕ) → IsWord (word t)
unfolding word
IsWord-word t =
    either (head t == 116) _ _ (either _ (boolean true) bad tt tt) (either (head t == 102) _ _ (either _ (boolean false) bad tt tt)
    (either (head t == 110) _ _ (either _ null bad tt tt) (number_word t (after_number t))))

-- ---- the cases of the first lexeme

abbrev is_quote_class : Class → Bool
is_quote_class quote = true
is_quote_class backslash = false
is_quote_class operator = false
is_quote_class space = false
is_quote_class other = false

quoted : (q b o s : Bool) → is_quote_class (cond q quote (cond b backslash (cond o operator (cond s space other)))) ≡ true → q ≡ true
quoted true b o s h = refl
quoted false true o s h = h
quoted false false true s h = h
quoted false false false true h = h
quoted false false false false h = h

a_quote : (x : ℕ) → class x ≡ quote → x ≡ 34
a_quote x e = eqb-true x 34 (quoted (x == 34) (x == 92) (is_operator x) (is_space x) (ap is_quote_class e))

module _ (t : List ℕ) (P : List Lexeme → Type 0) (end : is_blank (class (head t)) ≡ true → P (lex between t)) (text : (o : Option (List ℕ)) → head t ≡ 34 → P (token (string_token o) ∷ rest t))
    (words : (k : Token) → IsWord k → P (token k ∷ rest t)) (marks : (x : ℕ) → class x ≡ operator → head t ≡ x → P (operator_lexeme x ∷ rest t)) where
  by_class : (c : Class) → class (head t) ≡ c → P (lex between t)
  by_class quote e = subst P (sym (lex_first quote t e refl)) (text _ (a_quote (head t) e))
  by_class backslash e = subst P (sym (lex_first backslash t e refl)) (words bad tt)
  by_class operator e = subst P (sym (lex_first operator t e refl)) (marks (head t) e refl)
  by_class space e = end (ap is_blank e)
  by_class other e = subst P (sym (lex_first other t e refl)) (words (word t) (IsWord-word t))

  pub first_cases : P (lex between t)
  first_cases = by_class (class (head t)) refl

pub no_colon : (t : List ℕ) → IsAtLexeme t → head t ≢ 58 → begins_colon (lex between t) ≡ false
no_colon t ends other_byte =
    first_cases t (λ ls. begins_colon ls ≡ false) (λ b. ap begins_colon (ap (lex between) (ends b) ∙ lex-nil)) (λ o h. refl) (λ k w. refl)
    (six (λ x. head t ≡ x → begins_colon (operator_lexeme x ∷ rest t) ≡ false) (λ e. refl) (λ e. refl) (λ e. refl) (λ e. refl) (λ e. absurd (other_byte e)) (λ e. refl))

-- ---- where a value may begin

pub allowed : (b : Bool) (t : Token) (k : Place → List Token) (next : Place) → b ≡ true → if_allowed b t k next ≡ t ∷ k next
allowed b t k next e = ap (λ x. if_allowed x t k next) e

-- ---- from the reader's places

abbrev pub refused_at : reader.Place → List Token
refused_at Fresh = bad ∷ []
refused_at AfterValue = bad ∷ []
refused_at AfterComma = bad ∷ []
refused_at Failed = []

pub begun : (place : reader.Place) (t : List ℕ) (ts : List Token) → begins_at place ≡ true → ((p : Place) → may_begin p ≡ true → punctuate p (lex between t) ≡ ts) → tokens_at place t ≡ ts
begun Fresh t ts e f = f fresh refl
begun AfterValue t ts e f = absurd (false≢true e)
begun AfterComma t ts e f = f after_comma refl
begun Failed t ts e f = absurd (false≢true e)

pub closed : (place : reader.Place) (t : List ℕ) (ts : List Token) → closes_at place ≡ true → ((p : Place) → may_close p ≡ true → punctuate p (lex between t) ≡ ts) → tokens_at place t ≡ ts
closed Fresh t ts e f = f fresh refl
closed AfterValue t ts e f = f after_value refl
closed AfterComma t ts e f = absurd (false≢true e)
closed Failed t ts e f = absurd (false≢true e)

pub closing_after_comma : (t : List ℕ) → (head t ≡ 125) ⊎ (head t ≡ 93) → punctuate after_comma (lex between t) ≡ bad ∷ []
unfolding punctuate
closing_after_comma t (inl e) = ap (punctuate after_comma) (at_operator 125 t refl e)
closing_after_comma t (inr e) = ap (punctuate after_comma) (at_operator 93 t refl e)

pub not_closed : (place : reader.Place) (t : List ℕ) → closes_at place ≡ false → (head t ≡ 125) ⊎ (head t ≡ 93) → tokens_at place t ≡ refused_at place
not_closed Fresh t e h = absurd (true≢false e)
not_closed AfterValue t e h = absurd (true≢false e)
not_closed AfterComma t e h = closing_after_comma t h
not_closed Failed t e h = refl

pub ended : (place : reader.Place) (t : List ℕ) → t ≡ [] → tokens_at place t ≡ cond (closes_at place) [] (refused_at place)
unfolding punctuate
ended Fresh t e = ap (punctuate fresh) (ap (lex between) e ∙ lex-nil)
ended AfterValue t e = ap (punctuate after_value) (ap (lex between) e ∙ lex-nil)
ended AfterComma t e = ap (punctuate after_comma) (ap (lex between) e ∙ lex-nil)
ended Failed t e = refl

pub text_after_value : (o : Option (List ℕ)) (b : Bool) (k : Place → List Token) → place_token after_value (string_token o) b k ≡ bad ∷ []
text_after_value None b k = refl
text_after_value (Some s) true k = refl
text_after_value (Some s) false k = refl

pub word_after_value : (w : Token) (b : Bool) (k : Place → List Token) → IsWord w → place_token after_value w b k ≡ bad ∷ []
word_after_value begin_object b k h = absurd h
word_after_value end_object b k h = absurd h
word_after_value begin_array b k h = absurd h
word_after_value end_array b k h = absurd h
word_after_value (key s) b k h = absurd h
word_after_value (string s) b k h = absurd h
word_after_value (number s) b k h = refl
word_after_value (boolean v) b k h = refl
word_after_value null b k h = refl
word_after_value bad b k h = refl

pub not_begun : (place : reader.Place) (t : List ℕ) → begins_at place ≡ false → NotBeforeComma place t → is_blank (class (head t)) ≡ false → head t ≢ 125 → head t ≢ 93 → tokens_at place t ≡ refused_at place
unfolding punctuate
not_begun Fresh t e passed solid a b = absurd (true≢false e)
not_begun AfterValue t e passed solid a b =
    first_cases t (λ ls. punctuate after_value ls ≡ bad ∷ []) (λ blank. absurd (true≢false (sym blank ∙ solid))) (λ o h. text_after_value o _ _) (λ k w. word_after_value k _ _ w)
    (six (λ x. head t ≡ x → punctuate after_value (operator_lexeme x ∷ rest t) ≡ bad ∷ []) (λ h. refl) (λ h. absurd (a h)) (λ h. refl) (λ h. absurd (b h)) (λ h. refl) (λ h. absurd (passed h)))
not_begun AfterComma t e passed solid a b = absurd (true≢false e)
not_begun Failed t e passed solid a b = refl

-- ---- where no array closes

other_token : (b : Bool) (t : Token) (k : Place → List Token) (next : Place) → after_end_array (t ∷ k next) ≡ None → after_end_array (if_allowed b t k next) ≡ None
other_token true t k next e = e
other_token false t k next e = refl

text_no_end : (p : Place) (o : Option (List ℕ)) (b : Bool) (k : Place → List Token) → after_end_array (place_token p (string_token o) b k) ≡ None
text_no_end p None b k = refl
text_no_end p (Some s) true k = other_token (may_begin p) (key s) k after_key refl
text_no_end p (Some s) false k = other_token (may_begin p) (string s) k after_value refl

word_no_end : (p : Place) (w : Token) (b : Bool) (k : Place → List Token) → IsWord w → after_end_array (place_token p w b k) ≡ None
word_no_end p begin_object b k h = absurd h
word_no_end p end_object b k h = absurd h
word_no_end p begin_array b k h = absurd h
word_no_end p end_array b k h = absurd h
word_no_end p (key s) b k h = absurd h
word_no_end p (string s) b k h = absurd h
word_no_end p (number s) b k h = other_token (may_begin p) (number s) k after_value refl
word_no_end p (boolean v) b k h = other_token (may_begin p) (boolean v) k after_value refl
word_no_end p null b k h = other_token (may_begin p) null k after_value refl
word_no_end p bad b k h = refl

no_end : (p : Place) (t : List ℕ) → IsAtLexeme t → head t ≢ 93 → after_end_array (punctuate p []) ≡ None → (head t ≡ 44 → after_end_array (punctuate p (comma ∷ rest t)) ≡ None)
    → after_end_array (punctuate p (colon ∷ rest t)) ≡ None → after_end_array (punctuate p (lex between t)) ≡ None
unfolding punctuate
no_end p t ends other_byte none at_comma at_colon =
    let k = λ (n : Place). punctuate n (rest t) in
    first_cases t (λ ls. after_end_array (punctuate p ls) ≡ None) (λ b. ap (λ ls. after_end_array (punctuate p ls)) (ap (lex between) (ends b) ∙ lex-nil) ∙ none)
    (λ o h. text_no_end p o _ k) (λ w h. word_no_end p w _ k h)
    (six (λ x. head t ≡ x → after_end_array (punctuate p (operator_lexeme x ∷ rest t)) ≡ None) (λ h. other_token (may_begin p) begin_object k fresh refl) (λ h. other_token (may_close p) end_object k after_value refl)
    (λ h. other_token (may_begin p) begin_array k fresh refl) (λ h. absurd (other_byte h)) (λ h. at_colon) at_comma)

pub no_end_array : (place : reader.Place) (t : List ℕ) → IsAtLexeme t → NotBeforeComma place t → head t ≢ 93 → after_end_array (tokens_at place t) ≡ None
unfolding punctuate
no_end_array Fresh t ends passed h = no_end fresh t ends h refl (λ e. refl) refl
no_end_array AfterValue t ends passed h = no_end after_value t ends h refl (λ e. absurd (passed e)) refl
no_end_array AfterComma t ends passed h = no_end after_comma t ends h refl (λ e. refl) refl
no_end_array Failed t ends passed h = refl

pub refused_no_end : (place : reader.Place) → after_end_array (refused_at place) ≡ None
refused_no_end Fresh = refl
refused_no_end AfterValue = refl
refused_no_end AfterComma = refl
refused_no_end Failed = refl

-- ---- what a reader takes

pub goes_where_begins : (place : reader.Place) → begins_at place ≡ true → IsTrue (goes_at place)
goes_where_begins Fresh e = refl
goes_where_begins AfterValue e = absurd (false≢true e)
goes_where_begins AfterComma e = refl
goes_where_begins Failed e = absurd (false≢true e)

pub goes_where_closes : (place : reader.Place) → closes_at place ≡ true → IsTrue (goes_at place)
goes_where_closes Fresh e = refl
goes_where_closes AfterValue e = refl
goes_where_closes AfterComma e = absurd (false≢true e)
goes_where_closes Failed e = absurd (false≢true e)

pub key_taken : (place : reader.Place) (t w r next : List ℕ) → begins_at place ≡ true → IsQuoted t w r → head r ≡ 58 → lex between next ≡ drop 1 (lex between r) → tokens_at place t ≡ key w ∷ tokens_at Fresh next
unfolding punctuate
key_taken place t w r next may q e same =
    let after = sym q.same ∙ at_operator 58 r refl e in
    begun place t (key w ∷ punctuate fresh (lex between next)) may (λ p allows.
    ap (punctuate p) (at_string t (Some w) q.begins q.content ∙ ap (λ ls. token (string w) ∷ ls) after)
    ∙ allowed (may_begin p) (key w) (λ n. punctuate n (colon ∷ rest r)) after_key allows ∙ ap (λ ls. key w ∷ punctuate fresh ls) (sym same))

pub string_taken : (place : reader.Place) (t w r : List ℕ) → begins_at place ≡ true → IsQuoted t w r → head r ≢ 58 → tokens_at place t ≡ string w ∷ punctuate after_value (lex between r)
unfolding punctuate
string_taken place t w r may q other_byte =
    begun place t (string w ∷ punctuate after_value (lex between r)) may (λ p allows.
    ap (punctuate p) (at_string t (Some w) q.begins q.content ∙ ap (λ ls. token (string w) ∷ ls) (sym q.same))
    ∙ ap (λ b. place_token p (string w) b (λ n. punctuate n (lex between r))) (no_colon r q.passed other_byte)
    ∙ allowed (may_begin p) (string w) (λ n. punctuate n (lex between r)) after_value allows)

pub number_taken : (place : reader.Place) (t : List ℕ) (n k : ℕ) → begins_at place ≡ true → IsCounted t n k → tokens_at place t ≡ number (take k t) ∷ punctuate after_value (lex between (drop k t))
unfolding punctuate
number_taken place t n k may it =
    let s = take k t in
    begun place t (number s ∷ punctuate after_value (lex between (drop k t))) may (λ p allows.
    ap (punctuate p) it.same ∙ allowed (may_begin p) (number s) (λ n. punctuate n (lex between (drop k t))) after_value allows)

pub object_taken : (place : reader.Place) (t next : List ℕ) → begins_at place ≡ true → head t ≡ 123 → lex between next ≡ drop 1 (lex between t) → tokens_at place t ≡ begin_object ∷ tokens_at Fresh next
unfolding punctuate
object_taken place t next may e same =
    begun place t (begin_object ∷ punctuate fresh (lex between next)) may (λ p allows.
    ap (punctuate p) (at_operator 123 t refl e) ∙ allowed (may_begin p) begin_object (λ n. punctuate n (rest t)) fresh allows ∙ ap (λ ls. begin_object ∷ punctuate fresh ls) (sym same))

pub array_taken : (place : reader.Place) (t next : List ℕ) → begins_at place ≡ true → head t ≡ 91 → lex between next ≡ drop 1 (lex between t) → tokens_at place t ≡ begin_array ∷ tokens_at Fresh next
unfolding punctuate
array_taken place t next may e same =
    begun place t (begin_array ∷ punctuate fresh (lex between next)) may (λ p allows.
    ap (punctuate p) (at_operator 91 t refl e) ∙ allowed (may_begin p) begin_array (λ n. punctuate n (rest t)) fresh allows ∙ ap (λ ls. begin_array ∷ punctuate fresh ls) (sym same))

pub end_object_taken : (place : reader.Place) (t next : List ℕ) → closes_at place ≡ true → head t ≡ 125 → lex between next ≡ drop 1 (lex between t) → tokens_at place t ≡ end_object ∷ punctuate after_value (lex between next)
unfolding punctuate
end_object_taken place t next may e same =
    closed place t (end_object ∷ punctuate after_value (lex between next)) may (λ p allows.
    ap (punctuate p) (at_operator 125 t refl e) ∙ allowed (may_close p) end_object (λ n. punctuate n (rest t)) after_value allows ∙ ap (λ ls. end_object ∷ punctuate after_value ls) (sym same))

pub end_array_taken : (place : reader.Place) (t next : List ℕ) → closes_at place ≡ true → head t ≡ 93 → lex between next ≡ drop 1 (lex between t) → tokens_at place t ≡ end_array ∷ punctuate after_value (lex between next)
unfolding punctuate
end_array_taken place t next may e same =
    closed place t (end_array ∷ punctuate after_value (lex between next)) may (λ p allows.
    ap (punctuate p) (at_operator 93 t refl e) ∙ allowed (may_close p) end_array (λ n. punctuate n (rest t)) after_value allows ∙ ap (λ ls. end_array ∷ punctuate after_value ls) (sym same))

-- ---- what comes of a text at a place

-- a bracket closes behind a value as where nothing stood
pub closing_as_fresh : (t : List ℕ) → (head t ≡ 125) ⊎ (head t ≡ 93) → punctuate after_value (lex between t) ≡ punctuate fresh (lex between t)
unfolding punctuate
closing_as_fresh t (inl e) = ap (punctuate after_value) (at_operator 125 t refl e) ∙ sym (ap (punctuate fresh) (at_operator 125 t refl e))
closing_as_fresh t (inr e) = ap (punctuate after_value) (at_operator 93 t refl e) ∙ sym (ap (punctuate fresh) (at_operator 93 t refl e))

string_as_fresh : (o : Option (List ℕ)) (b : Bool) (k : Place → List Token) → place_token after_comma (string_token o) b k ≡ place_token fresh (string_token o) b k
string_as_fresh None b k = refl
string_as_fresh (Some s) true k = refl
string_as_fresh (Some s) false k = refl

word_as_fresh : (w : Token) (b : Bool) (k : Place → List Token) → IsWord w → place_token after_comma w b k ≡ place_token fresh w b k
word_as_fresh begin_object b k h = absurd h
word_as_fresh end_object b k h = absurd h
word_as_fresh begin_array b k h = absurd h
word_as_fresh end_array b k h = absurd h
word_as_fresh (key s) b k h = absurd h
word_as_fresh (string s) b k h = absurd h
word_as_fresh (number s) b k h = refl
word_as_fresh (boolean v) b k h = refl
word_as_fresh null b k h = refl
word_as_fresh bad b k h = refl

-- behind a comma comes what comes where nothing stood, but for a bracket and the end
pub comma_as_fresh : (t : List ℕ) → is_blank (class (head t)) ≡ false → head t ≢ 125 → head t ≢ 93 → punctuate after_comma (lex between t) ≡ punctuate fresh (lex between t)
unfolding punctuate
comma_as_fresh t solid a b =
    first_cases t (λ ls. punctuate after_comma ls ≡ punctuate fresh ls) (λ blank. absurd (true≢false (sym blank ∙ solid))) (λ o h. string_as_fresh o _ _) (λ k w. word_as_fresh k _ _ w)
    (six (λ x. head t ≡ x → punctuate after_comma (operator_lexeme x ∷ rest t) ≡ punctuate fresh (operator_lexeme x ∷ rest t)) (λ h. refl) (λ h. absurd (a h)) (λ h. refl) (λ h. absurd (b h)) (λ h. refl) (λ h. refl))

-- ---- a mark by its byte

pub closes_by : (x : ℕ) (t : List ℕ) → x ≡ head t → ((x == 125) || (x == 93)) ≡ true → (head t ≡ 125) ⊎ (head t ≡ 93)
closes_by x t e h = ⊎_elim (λ i. inl (sym e ∙ eqb-true x 125 i)) (λ i. inr (sym e ∙ eqb-true x 93 i)) (or_cases (x == 125) (x == 93) h)

pub closes_not : (x : ℕ) (t : List ℕ) → x ≡ head t → ((x == 125) || (x == 93)) ≡ false → (head t ≢ 125) × (head t ≢ 93)
closes_not x t e h =
    let parts = or_parts (x == 125) (x == 93) h in
    ((λ i. absurd (true≢false (sym (eq-eqb x 125 (e ∙ i)) ∙ parts.0))), (λ i. absurd (true≢false (sym (eq-eqb x 93 (e ∙ i)) ∙ parts.1))))

by_blank : (b : Bool) (t : List ℕ) → is_blank (class (head t)) ≡ b → IsAtLexeme t → head t ≢ 32 → b ≡ false
by_blank true t e at other_byte = absurd (other_byte (ap head (at e)))
by_blank false t e at other_byte = refl

pub solid_at : (t : List ℕ) → IsAtLexeme t → head t ≢ 32 → is_blank (class (head t)) ≡ false
solid_at t at other_byte = by_blank (is_blank (class (head t))) t refl at other_byte

pub over_at : (t : List ℕ) → IsAtLexeme t → head t ≡ 32 → t ≡ []
over_at t at e = at (ap (λ x. is_blank (class x)) e)

-- ---- the reader

pub comma_passed : (t next : List ℕ) → head t ≡ 44 → lex between next ≡ drop 1 (lex between t) → punctuate after_comma (lex between next) ≡ punctuate after_value (lex between t)
unfolding punctuate
comma_passed t next e same = ap (punctuate after_comma) same ∙ sym (ap (punctuate after_value) (at_operator 44 t refl e))

-- of the tokens `old` the first was taken
pub taken : (old : List Token) (r : Option (List Token)) (p q : reader.Place) (t u : List ℕ) (k : Token) → tokens_of r p t ≡ old → r ≡ None → tokens_at p t ≡ k ∷ tokens_at q u → old ≡ k ∷ tokens_of r q u
taken old r p q t u k is none e = sym is ∙ ap (λ o. tokens_of o p t) none ∙ e ∙ ap (λ o. k ∷ tokens_of o q u) (sym none)

pub not_ended : (old : List Token) (r : Option (List Token)) (p : reader.Place) (t : List ℕ) → tokens_of r p t ≡ old → r ≡ None → after_end_array (tokens_at p t) ≡ None → after_end_array old ≡ None
not_ended old r p t is none e = ap after_end_array (sym is ∙ ap (λ o. tokens_of o p t) none) ∙ e
