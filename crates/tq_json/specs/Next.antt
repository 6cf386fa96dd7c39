-- The next value of a reader, as the data that `serde_json` reads. Values that are passed over: what is left behind a
-- list or an object that is open.
use Rattle.std.specs.Prelude.{◌≡◌, ℕ, Bool, List, length, Option, Some, None, option_map, option_and_then, IsUtf8, zero, suc, true, false, ◌∷◌}
use Rattle.std.specs.Borrow.{Bor}
use Rattle.json.specs.{Token.Token, Json.{value, items, members}, Reads.token_of}
use Rattle.serde_json.specs.Data.{Num, Data, Items, Members, no_members}
use Rattle.serde_json.specs.Read.{number_of, of_json, of_items, of_members, converted}
use Rattle.serde_json.specs.Find.{get, as_u64, as_str, as_number, as_bool}
use Rattle.json.specs.declared.token.Token as read

-- the value that the tokens begin with, where it is JSON with each number in range, and the tokens behind it
abbrev pub next : ℕ → List Token → Option (Data × List Token)
next depth ts = converted of_json (value depth ts)

-- the same of the items of an array, up to its bracket
abbrev pub next_items : ℕ → List Token → Option (Items × List Token)
next_items depth ts = converted of_items (items (value depth) (length ts) ts)

-- and of the members of an object, the last of each name
abbrev pub next_members : ℕ → List Token → Option (Members × List Token)
next_members depth ts = converted (λ ms. of_members ms no_members) (members (value depth) (length ts) ts)

-- the members behind those that were found
abbrev pub members_behind : Members → ℕ → List Token → Option (Members × List Token)
members_behind found depth ts = converted (λ ms. of_members ms found) (members (value depth) (length ts) ts)

-- of what stood first, which is gone now, the relation holds
abbrev pub Found : {X D : Type 0} → (D → X → Type 0) → Option (D × List Token) → List Token → X → Type 0
Found {D = D} P first rest x = (d : D) × (first ≡ Some (d, rest)) × P d x

-- the text that the value is
abbrev pub IsTextOf : Data → Option (Bor (List ℕ)) → Type 0
IsTextOf d text = option_map (λ t. t.now) text ≡ as_str d

-- the number of 64 bits that it is, written without a point, an exponent or a sign
abbrev pub IsNumberOf : Data → Option ℕ → Type 0
IsNumberOf d number = number ≡ option_and_then as_u64 (as_number d)

-- whether it is true or false
abbrev pub IsFlagOf : Data → Option Bool → Type 0
IsFlagOf d flag = flag ≡ as_bool d

-- the bytes are UTF-8, and the text is them
abbrev pub IsTextOfBytes : List ℕ → List ℕ → Type 0
IsTextOfBytes bytes text = (text ≡ bytes) × IsUtf8 bytes

-- what a number in range is as one of 64 bits, written without a point, an exponent or a sign
abbrev pub IsWhole : Option ℕ → List ℕ → Type 0
IsWhole whole text = (n : Num) × (number_of text ≡ Some n) × (whole ≡ as_u64 n)

-- nothing stands at any name
abbrev pub HasNoNames : Data → Type 0
HasNoNames d = (name : List ℕ) → get name d ≡ None

-- ---- behind

-- the value that the token begins, and the tokens behind it
abbrev pub next_from : ℕ → read.Token → List Token → Option (Data × List Token)
next_from depth token ts = next depth (token_of token ∷ ts)

-- the tokens behind what was read
abbrev pub behind : {A : Type 0} → Option (A × List Token) → Option (List Token)
behind read = option_map (λ p. p.1) read

-- the tokens behind a list that is open, or an object (`true`)
abbrev pub tokens_behind : Bool → ℕ → List Token → Option (List Token)
tokens_behind false depth ts = behind (next_items depth ts)
tokens_behind true depth ts = behind (next_members depth ts)

-- the tokens behind one that is opened here, at that depth
abbrev pub tokens_behind_next : Bool → ℕ → List Token → Option (List Token)
tokens_behind_next kind zero ts = None
tokens_behind_next kind (suc depth) ts = tokens_behind kind depth ts

-- a value begins with the token: it is the token alone, or a list or an object
abbrev pub Begins : Token → Option Bool → Type 0
Begins t None = (depth : ℕ) (ts : List Token) → behind (next depth (t ∷ ts)) ≡ Some ts
Begins t (Some kind) = (depth : ℕ) (ts : List Token) → behind (next depth (t ∷ ts)) ≡ tokens_behind_next kind depth ts

-- no value begins with the token
abbrev pub BeginsNone : Token → Type 0
BeginsNone t = (depth : ℕ) (ts : List Token) → next depth (t ∷ ts) ≡ None

-- what is open ends between the tokens
abbrev pub Ends : Bool → List Token → List Token → Type 0
Ends kind ts rest = (depth : ℕ) → tokens_behind kind depth ts ≡ Some rest

-- what is open goes on with a value, which the later tokens begin with
abbrev pub GoesOn : Bool → List Token → List Token → Type 0
GoesOn kind ts rest = (depth : ℕ) → tokens_behind kind depth ts ≡ option_and_then (tokens_behind kind depth) (behind (next depth rest))

-- what is open does neither
abbrev pub Fails : Bool → List Token → Type 0
Fails kind ts = (depth : ℕ) → tokens_behind kind depth ts ≡ None
