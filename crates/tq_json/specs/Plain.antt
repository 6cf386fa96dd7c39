-- The model of the reader, and of the lexemes that it reads itself: those of a text as the product writes it.
use Rattle.std.specs.Prelude.{◌≡◌, ◌+◌, ◌≢◌, ◌<◌, ◌≤◌, ◌-◌, ℕ, List, [], ◌∷◌, length, take, drop, get_or, Bool, true, false, Option, Some, None, IsTrue, ⊤}
use Rattle.std.specs.{List.list_all, Str.Parse.{AllDigits, digits_value}}
use Rattle.json.specs.{Run.is_plain, Token.{Token, bad}, Text.{content, plain}, Word.head, Align.is_blank}
use Rattle.json.specs.Lex.{token, between, lex, class, fresh, after_value, after_comma, punctuate}
use Rattle.tq_json.specs.declared.reader.{Place.Place, Place.TheVariants.{Fresh, AfterValue, AfterComma, Failed}}
use Rattle.tq_json.specs.declared.reader.{Outlook.Outlook, Outlook.TheVariants.{Ends, Refused}}

-- no space stands before the next lexeme
abbrev pub IsAtLexeme : List ℕ → Type 0
IsAtLexeme text = is_blank (class (head text)) ≡ true → text ≡ []

-- the text begins with a string that has no escape, and the rest is behind it
pub record IsQuoted (text word rest : List ℕ) : Type 0 where
  pub begins : head text ≡ 34
  pub content : content plain (drop 1 text) ≡ Some word
  pub same : lex between rest ≡ drop 1 (lex between text)
  pub passed : IsAtLexeme rest

-- the text begins with so many digits, which write the number, and the rest is behind them
pub record IsCounted (text : List ℕ) (number count : ℕ) : Type 0 where
  pub some : 0 < count
  pub few : count < 19
  pub within : count ≤ length text
  pub digits : AllDigits 10 (take count text)
  pub value : number ≡ digits_value 10 (take count text)
  pub same : lex between text ≡ token (Token.number (take count text)) ∷ lex between (drop count text)
  pub passed : IsAtLexeme (drop count text)
  pub last : get_or text (count - 1) 0 < 128

-- the text begins with a key of that name, and with its colon
abbrev pub IsKeyFirst : List ℕ → List ℕ → Type 0
IsKeyFirst name text =
    (length name + 3 ≤ length text) × (get_or text 0 0 ≡ 34) × (take (length name) (drop 1 text) ≡ name) × (get_or text (length name + 1) 0 ≡ 34) × (get_or text (length name + 2) 0 ≡ 58)

-- each byte of the name means itself in a string
abbrev pub is_plain_name : List ℕ → Bool
is_plain_name name = list_all is_plain name

-- ---- places

abbrev pub tokens_at : Place → List ℕ → List Token
tokens_at Fresh text = punctuate fresh (lex between text)
tokens_at AfterValue text = punctuate after_value (lex between text)
tokens_at AfterComma text = punctuate after_comma (lex between text)
tokens_at Failed text = []

abbrev pub NotBeforeComma : Place → List ℕ → Type 0
NotBeforeComma Fresh text = ⊤
NotBeforeComma AfterValue text = head text ≢ 44
NotBeforeComma AfterComma text = ⊤
NotBeforeComma Failed text = ⊤

abbrev pub closes_at : Place → Bool
closes_at Fresh = true
closes_at AfterValue = true
closes_at AfterComma = false
closes_at Failed = false

abbrev pub begins_at : Place → Bool
begins_at Fresh = true
begins_at AfterValue = false
begins_at AfterComma = true
begins_at Failed = false

abbrev pub goes_at : Place → Bool
goes_at Fresh = true
goes_at AfterValue = true
goes_at AfterComma = true
goes_at Failed = false

-- what is still to come: of the rest, where that was given away
abbrev pub tokens_of : Option (List Token) → Place → List ℕ → List Token
tokens_of None place text = tokens_at place text
tokens_of (Some rest) place text = rest

-- a number of few digits comes first, and then the tokens `new`
abbrev pub IsNumberFirst : ℕ → List Token → List Token → Type 0
IsNumberFirst number old new = (s : List ℕ) × (old ≡ Token.number s ∷ new) × (0 < length s) × (length s ≤ 19) × AllDigits 10 s × (number ≡ digits_value 10 s)

abbrev pub Foresees : Outlook → Place → List ℕ → Type 0
Foresees Outlook.Fresh place text = (tokens_at place text ≡ tokens_at Fresh text) × IsTrue (goes_at place)
Foresees Ends place text = tokens_at place text ≡ []
Foresees Refused place text = tokens_at place text ≡ bad ∷ []
