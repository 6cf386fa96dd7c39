-- What contracts see of a map whose look-ups are bounded: its entries in their order, and how many more fit with no memory
-- asked for. It is the record that they see of an `IndexMap`, with no hasher, so the words of that one serve.
use Rattle.std.specs.Prelude.{◌≡◌, ◌≤◌, ◌+◌, ◌-◌, ℕ, Bool, false, if◌then◌else◌, List, [], ◌∷◌, ◌++◌, Option, Some, ⊤, is_some, length, position, slice_get, take}
use Rattle.std.specs.{Coded.Coded, declared.cmp.Ordering.Ordering, BTreeMap.BTreeMap}
use base.Stored.{coded_unit}
use Rattle.std.specs.BTreeMap as ordered
use Rattle.indexmap.specs.{IndexMap.{IndexMap, index_map_len, insert_entry, spare}, Layout.{hash_map, hash_map_code}}

-- a map as one value of a code, from those of its keys and values
abbrev pub bounded_code : {K V : Type 0} → Coded K → Coded V → Coded (IndexMap K V ⊤)
bounded_code key value = hash_map_code key value coded_unit

-- these entries, with room for so many more
abbrev pub with_spare : {K V : Type 0} → List (K × V) → ℕ → IndexMap K V ⊤
with_spare entries spare = hash_map entries tt spare

-- the entries with one more behind them, in the room that was made
abbrev pub with_last : {K V : Type 0} → IndexMap K V ⊤ → K → V → IndexMap K V ⊤
with_last map key value = with_spare (map.entries ++ (key, value) ∷ []) (spare map - 1)

-- the entry at that place has that key and that value
abbrev pub HasEntryAt : {K V : Type 0} → IndexMap K V ⊤ → ℕ → K → V → Type 0
HasEntryAt map place key value = slice_get map.entries place ≡ Some (key, value)

-- the key has come to have the value: at the place of its entry, or behind all entries where it had none
abbrev pub HasPut : {K V : Type 0} → (K → K → Bool) → IndexMap K V ⊤ → IndexMap K V ⊤ → K → V → Type 0
HasPut eq old new key value = new.entries ≡ insert_entry eq old.entries key value

-- there is one entry more where the key had no value, else there are as many
abbrev pub HasOneMoreIfNew : {K V : Type 0} → IndexMap K V ⊤ → IndexMap K V ⊤ → Option V → Type 0
HasOneMoreIfNew old new before = index_map_len new ≡ index_map_len old + (if is_some before then 0 else 1)

-- there is one entry less where the key had a value, else there are as many
abbrev pub HasOneLessIfThere : {K V : Type 0} → IndexMap K V ⊤ → IndexMap K V ⊤ → Option V → Type 0
HasOneLessIfThere old new before = index_map_len new + (if is_some before then 1 else 0) ≡ index_map_len old

-- the ordered map has each of the first keys, at its place, and no other key
abbrev pub ArePlaced : {K : Type 0} → (K → K → Ordering) → (K → K → Bool) → BTreeMap K ℕ → ℕ → List K → Type 0
ArePlaced {K} cmp eq places placed keys = (placed ≤ length keys) × ((key : K) → ordered.get cmp places key ≡ position (eq key) (take placed keys))

-- the entries that are in use: those in the list where there are many, else those in the hash table
abbrev pub in_use : {K V S : Type 0} → Bool → IndexMap K V S → IndexMap K V ⊤ → IndexMap K V ⊤
in_use is_many few many = if is_many then many else with_spare few.entries (spare few)

-- the list is empty until there are many
abbrev pub IsInUse : {K V : Type 0} → Bool → IndexMap K V ⊤ → Type 0
IsInUse is_many many = is_many ≡ false → many.entries ≡ []
