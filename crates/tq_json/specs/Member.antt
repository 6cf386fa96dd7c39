-- What depends on the format of a file: the rest of the form is the same in both. What stands in an object of the form
-- at a name. Names of files, and contents as hexadecimal text.
use Rattle.std.specs.Prelude.{ℕ, ◌==◌, Option, Some, None, cond, Bool, List, [], ◌∷◌, length, nat_le, Result, Ok, Err}
use Rattle.std.specs.Option.{option_and_then}
use Rattle.tq_json.specs.declared.format.{Format.Format, Format.TheVariants.{One, Two}}
use Rattle.serde_json.specs.Data.{Data, Items, no_items, item}
use Rattle.serde_json.specs.Find.{get, as_str, as_number, as_u64, as_bool, as_array}
use Rattle.hex.specs.Hex.{decode_of}
use Rattle.tq_store.specs.Names.{is_file_name}

abbrev pub format_number : Format → ℕ
format_number One = 1
format_number Two = 2

-- the format of that number
abbrev pub format_of : ℕ → Option Format
format_of number = cond (number == 1) (Some One) (cond (number == 2) (Some Two) None)

-- the most levels that a tree has
abbrev pub most_levels : Format → ℕ
most_levels One = 6
most_levels Two = 10

-- the most bytes that a content has
abbrev pub most_content : Format → ℕ
most_content One = 1000
most_content Two = 4000

-- ---- member

-- the step after a member that is there; where it is not, there is nothing
infixl 10 ◌>>=◌
abbrev pub ◌>>=◌ : {A B : Type 0} → Option A → (A → Option B) → Option B
None >>= f = None
Some x >>= f = f x

abbrev pub text_at : List ℕ → Data → Option (List ℕ)
text_at name value = option_and_then as_str (get name value)

abbrev pub number_of : Data → Option ℕ
number_of value = option_and_then as_u64 (as_number value)

-- a number that fits 64 bits, written without a point, an exponent or a sign
abbrev pub number_at : List ℕ → Data → Option ℕ
number_at name value = option_and_then number_of (get name value)

abbrev pub flag_at : List ℕ → Data → Option Bool
flag_at name value = option_and_then as_bool (get name value)

abbrev pub items_at : List ℕ → Data → Option Items
items_at name value = option_and_then as_array (get name value)

-- values of one form alone, in order
abbrev pub each : {A : Type 0} → (Data → Option A) → Items → Option (List A)
each form no_items = Some []
each form (item value values) = do
  first ← form value
  rest ← each form values
  Some (first ∷ rest)

-- ---- content

-- the name of a file that a text is
abbrev pub name_of : List ℕ → Option (List ℕ)
name_of text = cond (is_file_name text) (Some text) None

abbrev pub file_at : List ℕ → Data → Option (List ℕ)
file_at name value = do
  text ← text_at name value
  name_of text

-- what was read, where it was
abbrev pub content_read : {E : Type 0} → Result (List ℕ) E → Option (List ℕ)
content_read (Ok bytes) = Some bytes
content_read (Err fault) = None

abbrev pub short_enough : Format → List ℕ → Option (List ℕ)
short_enough format bytes = cond (nat_le (length bytes) (most_content format)) (Some bytes) None

-- the content that a text is: pairs of hexadecimal digits of either case, not too many
abbrev pub content_of : Format → List ℕ → Option (List ℕ)
content_of format text = do
  bytes ← content_read (decode_of text)
  short_enough format bytes

abbrev pub content_at : Format → List ℕ → Data → Option (List ℕ)
content_at format name value = do
  text ← text_at name value
  content_of format text
