-- Numbers, contents and lists as values, and the objects that have a kind alone. The members of an object stand in
-- ascending order of their names, here and in all that follows. Values whose numbers are whole and fit 64 bits.
use Rattle.std.specs.Prelude.{ℕ, List, [], ◌∷◌, codes, ◌<◌, ◌^◌, ⊤}
use Rattle.hex.specs.Hex.{encode_lower}
use Rattle.serde_json.specs.Data.{Data, Items, no_items, item, array, object, member, no_members, number, unsigned, string, Num, negative, float, null, boolean, Members}
use Rattle.tq_shape.specs.declared.part.Entry.{Entry}

abbrev pub whole : ℕ → Data
whole n = number (unsigned n)

-- a content: two digits for each byte
abbrev pub content_value : List ℕ → Data
content_value bytes = string (encode_lower bytes)

abbrev pub value_items : {A : Type 0} → (A → Data) → List A → Items
value_items value [] = no_items
value_items value (first ∷ rest) = item (value first) (value_items value rest)

-- a list of such values, in order
abbrev pub list_value : {A : Type 0} → (A → Data) → List A → Data
list_value value list = array (value_items value list)

abbrev pub kind_value : List ℕ → Data
kind_value kind = object (member (codes "is") (string kind) no_members)

-- a refusal that tells no more than its code
abbrev pub code_value : ℕ → Data
code_value code =
    object (member (codes "code") (whole code)
    (member (codes "is") (string (codes "refused")) no_members))

-- an entry whose ask and reply are such values
abbrev pub entry_value : {A R : Type 0} → (A → Data) → (R → Data) → Entry A R → Data
entry_value ask reply entry =
    object (member (codes "ask") (ask entry.ask)
    (member (codes "reply") (reply entry.reply) no_members))

-- ---- fitting

abbrev pub IsFittingNumber : Num → Type 0
IsFittingNumber (unsigned n) = n < 2 ^ 64
IsFittingNumber (negative z) = ⊥
IsFittingNumber (float x) = ⊥

-- each number in the value is one of 64 bits
abbrev mutual
  pub IsFitting : Data → Type 0
  IsFitting null = ⊤
  IsFitting (boolean b) = ⊤
  IsFitting (number n) = IsFittingNumber n
  IsFitting (string s) = ⊤
  IsFitting (array values) = AreFitting values
  IsFitting (object members) = HasFitting members

  pub AreFitting : Items → Type 0
  AreFitting no_items = ⊤
  AreFitting (item value rest) = IsFitting value × AreFitting rest

  pub HasFitting : Members → Type 0
  HasFitting no_members = ⊤
  HasFitting (member name value rest) = IsFitting value × HasFitting rest
