-- Lists of keys, each under a name.
use Rattle.std.specs.Prelude.{◌≡◌, ◌<◌, ℕ, suc, Bool, true, List, [], ◌∷◌, Option, Some, None, if◌then◌else◌, filter_map, slice_get, length, take, drop, min, All, ◌*◌, ◌≤◌, ◌++◌}
use Rattle.std.specs.{List.{insert, remove}, Global.{Box, Vec}, Option.{option_copied, option_map_or}, Ordering.is_lt}
use Rattle.std.specs.declared.cmp.Ordering.{Ordering}
use Rattle.slab.specs.Slab.{Slab, get as in_slab}
use denote.Ref.{Bor}
use Rattle.smallvec.specs.SmallVec.{SmallVec, HasRoomFor}
use Rattle.indexmap.specs.IndexMap.{IndexMap, get, spare}

-- the keys of a list, none where there is no list
abbrev pub keys_in : Option (SmallVec ℕ) → List ℕ
keys_in list = option_map_or (λ keys. keys.items) list []

-- the same of a list that is lent
abbrev pub lent_keys : Option (Bor (SmallVec ℕ)) → List ℕ
lent_keys list = keys_in (option_copied list)

module _ {K : Type 0} (eq : K → K → Bool) {S : Type 0} where
  -- the keys under a name, in their order
  abbrev pub keys_under : IndexMap K (SmallVec ℕ) S → K → List ℕ
  keys_under lists name = keys_in (get eq lists name)

  -- a name's list is at this index and has room for one more key, or there is none, and room for one
  abbrev pub HasRoomUnder : IndexMap K (SmallVec ℕ) S → K → Option ℕ → Type 0
  HasRoomUnder lists name None = (get eq lists name ≡ None) × (0 < spare lists)
  HasRoomUnder lists name (Some index) = (stored : K) × (keys : SmallVec ℕ) × (slice_get lists.entries index ≡ Some (stored, keys)) × (eq name stored ≡ true) × (get eq lists name ≡ Some keys) × HasRoomFor keys 1

  -- a name's list is at this index
  abbrev pub HasListAt : IndexMap K (SmallVec ℕ) S → K → ℕ → Type 0
  HasListAt lists name index = (stored : K) × (keys : SmallVec ℕ) × (slice_get lists.entries index ≡ Some (stored, keys)) × (eq name stored ≡ true) × (get eq lists name ≡ Some keys)

  -- under each name are the keys that were there before
  abbrev pub HasSameKeys : IndexMap K (SmallVec ℕ) S → IndexMap K (SmallVec ℕ) S → Type 0
  HasSameKeys old new = (other : K) → keys_under new other ≡ keys_under old other

  -- under a name are these keys, and under each other name those that were there before
  abbrev pub Sets : IndexMap K (SmallVec ℕ) S → IndexMap K (SmallVec ℕ) S → K → List ℕ → Type 0
  Sets old new name keys = (other : K) → keys_under new other ≡ (if eq name other then keys else keys_under old other)

  -- a key has come into this place of those under a name
  abbrev pub Enters : IndexMap K (SmallVec ℕ) S → IndexMap K (SmallVec ℕ) S → K → ℕ → ℕ → Type 0
  Enters old new name place key = Sets old new name (insert (keys_under old name) place key)

  -- the key at this place of those under a name has left them
  abbrev pub Leaves : IndexMap K (SmallVec ℕ) S → IndexMap K (SmallVec ℕ) S → K → ℕ → Type 0
  Leaves old new name place = Sets old new name (remove (keys_under old name) place)

-- how many of the first entries are below a key: where it goes in their order
abbrev pub place : {K X : Type 0} → (K → K → Ordering) → K → List (K × X) → ℕ
place cmp key [] = 0
place cmp key (entry ∷ rest) = if is_lt (cmp entry.0 key) then suc (place cmp key rest) else 0

-- the entries under these keys
abbrev pub entries_of : {X : Type 0} → Slab X → List ℕ → List X
entries_of slab keys = filter_map (in_slab slab) keys

-- a block's keys in their order, where its first is at a place
abbrev pub turn : ℕ → List ℕ → List ℕ
turn start block = drop start block ++ take start block

-- the keys of blocks of 2048 in their order, and those behind the blocks
abbrev pub turned_keys : List ℕ → List ℕ → List ℕ
turned_keys [] places = places
turned_keys (start ∷ starts) places = turn start (take 2048 places) ++ turned_keys starts (drop 2048 places)

-- so many places are blocks, each with its first key in it, and no more keys behind them than one has
abbrev pub HasBlocks : List ℕ → ℕ → Type 0
HasBlocks starts len = (2048 * length starts ≤ len) × (len ≤ 2048 * suc (length starts)) × All (λ start. start < 2048) starts

-- where in each block its first key is: nowhere, where a list has no block
abbrev pub starts_in : Option (Box (Vec ℕ)) → List ℕ
starts_in starts = option_map_or (λ list. list.value.items) starts []

-- there is room for one more key behind the blocks
abbrev pub HasRoomBehind : List ℕ → SmallVec ℕ → Type 0
HasRoomBehind starts places = HasRoomFor places 1 × (length places.items < 2048 * suc (length starts))

-- the keys in their order, with the room that there is before one more block
abbrev pub keys_of : List ℕ → SmallVec ℕ → SmallVec ℕ
keys_of starts places = record { items = turned_keys starts places.items; capacity = min places.capacity (2048 * suc (length starts)) }

-- the last of the keys has come into this place
abbrev pub Sinks : List ℕ → List ℕ → ℕ → Type 0
Sinks old new place = (front : List ℕ) (key : ℕ) → old ≡ front ++ key ∷ [] → new ≡ insert front place key
