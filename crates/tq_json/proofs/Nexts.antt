-- Lists of values of one form, value by value: the grammar's loops, a turn at a time, under the conversion to data. The items and
-- the members of a reader, one at a time. The next value by its first token, and what is refused with a part of it. Passing over
-- what is open, value by value, with the kinds of all that are open in the bits of a number.
use Rattle.std.proofs.Common.{◌≡◌, List, [], ◌++◌, Option, Some, None, refl, ℕ, zero, suc, ◌-◌, ◌<◌, ◌≤◌, length, option_map, option_and_then, ap, ◌∙◌, ◌∷◌, sym, arith, Bool, Result, Ok, Err, true, false, subst, rules, ◌+◌, ◌*◌, ◌/◌, ◌%◌, ◌^◌, ◌==◌, not, cond}
use Rattle.std.proofs.{lemmas.Bool.{false≢true, true≢false}, lemmas.Simd.mask_l-lt, Math.Nat.pow-le-pow_right}
use Rattle.std.specs.{Option.{option_and_then, is_some, option_map}, Prelude.{⊤, IfOk}, Borrow.Bor, Bool.MatchBool}
use Rattle.json.specs.{Token.Token, Reads.token_of}
use Rattle.json.specs.Json.{Parse, parse_map, after_end_array, read_key, items_step, items, members, if_last, members_step, value}
use Rattle.json.proofs.Grammar.{items_more, members_no_key, members_more, left, read_key-shorter, skip_value-shorter, items_fail, left_some, value_is, value-begin_array, value-begin_object, left-parse_map}
use Rattle.json.specs.Json as json
use Rattle.json.proofs.Grammar as grammar
use Rattle.serde_json.specs.Data.{Data, array, object, no_items, item, Members, no_members, put, Num, null, boolean, number, string, Items}
use Rattle.serde_json.specs.Read.{of_json, of_items, of_members, converted, number_of}
use Rattle.serde_json.specs.Find.{as_str, as_bool, as_number, as_u64, as_array}
use Rattle.tq_json.specs.Next.{members_behind, next, next_items, next_members, Found, HasNoNames, behind, tokens_behind, tokens_behind_next, Begins, Ends, GoesOn, Fails}
use Rattle.json.specs.declared.token.Token as read
use Rattle.json.specs.declared.token.Token.TheVariants as kinds
use lib.Lanes.{mask_l}
use mir.Val.{bool_byte}

-- what was read so far, before the rest
abbrev pub with_front : {A : Type 0} → List A → Option (List A) → Option (List A)
with_front front None = None
with_front front (Some rest) = Some (front ++ rest)

pub no_front : {A : Type 0} (o : Option (List A)) → with_front [] o ≡ o
no_front None = refl
no_front (Some rest) = refl

-- ---- loops

abbrev pick : {A : Type 0} → A → Option A → A
pick d None = d
pick d (Some a) = a

found : {A B : Type 0} (a : A) (r s : List Token) (x : Option B) (b : B) → option_map {U = B × List Token} (λ y. (y, r)) x ≡ Some (b, s) → (r ≡ s) × (x ≡ Some b)
found a r s None b e = absurd (cc)
found a r s (Some y) b e = let same = ap (pick (y, r)) e in (ap (λ p. p.1) same, ap (λ p. Some p.0) same)

pub converted_some : {A B : Type 0} (f : A → Option B) (o : Option (A × List Token)) (b : B) (r : List Token) → converted f o ≡ Some (b, r) → (a : A) × (o ≡ Some (a, r)) × (f a ≡ Some b)
converted_some f None b r e = absurd (cc)
converted_some f (Some p) b r e = let both = found p.0 p.1 r (f p.0) b e in (p.0, ap (λ s. Some (p.0, s)) both.0, both.1)

not_made : {B : Type 0} (r : List Token) (x : Option B) → option_map {U = B × List Token} (λ y. (y, r)) x ≡ None → x ≡ None
not_made r None e = refl
not_made r (Some y) e = absurd (cc)

twice : {A B : Type 0} (g : A → B) (r : List Token) (x : Option A) → option_map (λ b. (b, r)) (option_map g x) ≡ parse_map g (option_map (λ a. (a, r)) x)
twice g r None = refl
twice g r (Some a) = refl

pub converted-array : (o : Option (json.Items × List Token)) → converted of_json (parse_map json.array o) ≡ parse_map array (converted of_items o)
converted-array None = refl
converted-array (Some p) = twice array p.1 (of_items p.0)

pub converted-object : (o : Option (json.Members × List Token)) → converted of_json (parse_map json.object o) ≡ parse_map object (converted (λ ms. of_members ms no_members) o)
converted-object None = refl
converted-object (Some p) = twice object p.1 (of_members p.0 no_members)

with_item : (j : json.Json) (d : Data) → of_json j ≡ Some d → (o : Option (json.Items × List Token)) → converted of_items (parse_map (json.item j) o) ≡ parse_map (item d) (converted of_items o)
with_item j d e None = refl
with_item j d e (Some p) = rw e (twice (item d) p.1 (of_items p.0))

without_item : (j : json.Json) → of_json j ≡ None → (o : Option (json.Items × List Token)) → converted of_items (parse_map (json.item j) o) ≡ None
without_item j e None = refl
without_item j e (Some p) = rw e

with_member : (k : List ℕ) (j : json.Json) (d : Data) (old : Members) → of_json j ≡ Some d → (o : Option (json.Members × List Token))
    → converted (λ ms. of_members ms old) (parse_map (json.member k j) o) ≡ converted (λ ms. of_members ms (put k d old)) o
with_member k j d old e None = refl
with_member k j d old e (Some p) = rw e

without_member : (k : List ℕ) (j : json.Json) (old : Members) → of_json j ≡ None → (o : Option (json.Members × List Token)) → converted (λ ms. of_members ms old) (parse_map (json.member k j) o) ≡ None
without_member k j old e None = refl
without_member k j old e (Some p) = rw e

module _ (p : Parse json.Json) where
  pub item_read : (n : ℕ) (ts r : List Token) (d : Data) → 0 < n → after_end_array ts ≡ None → converted of_json (p ts) ≡ Some (d, r)
      → converted of_items (items p n ts) ≡ parse_map (item d) (converted of_items (items p (n - 1) r))
  item_read n ts r d some going e = let j = converted_some of_json (p ts) d r e in ap (converted of_items) (items_more p n ts r j.0 some going j.1) ∙ with_item j.0 d j.2 _

  no_item : (more : Parse json.Items) (o : Option (json.Json × List Token)) → converted of_json o ≡ None → converted of_items (option_and_then (λ q. parse_map (json.item q.0) (more q.1)) o) ≡ None
  no_item more None e = refl
  no_item more (Some q) e = without_item q.0 (not_made q.1 (of_json q.0) e) (more q.1)

  pub item_refused : (n : ℕ) (ts : List Token) → after_end_array ts ≡ None → converted of_json (p ts) ≡ None → converted of_items (items p n ts) ≡ None
  unfolding items
  item_refused zero ts going e = refl
  item_refused (suc n) ts going e = ap (λ o. converted of_items (items_step p (items p n) ts o)) going ∙ no_item (items p n) (p ts) e

  pub items_over : (n : ℕ) (ts r : List Token) → length ts ≤ n → after_end_array ts ≡ Some r → converted of_items (items p n ts) ≡ Some (no_items, r)
  items_over n ts r enough e = ap (converted of_items) (grammar.items_end p n ts r enough e)

  module _ (old : Members) where
    pub member_read : (n : ℕ) (k : List ℕ) (ts s r : List Token) (d : Data) → 0 < n → read_key ts ≡ Some (Some k, s) → converted of_json (p s) ≡ Some (d, r)
        → converted (λ ms. of_members ms old) (members p n ts) ≡ converted (λ ms. of_members ms (put k d old)) (members p (n - 1) r)
    member_read n k ts s r d some key e =
        let j = converted_some of_json (p s) d r e in
        ap (converted (λ ms. of_members ms old)) (members_more p n k ts s r j.0 some key j.1) ∙ with_member k j.0 d old j.2 _

    no_member : (k : List ℕ) (more : Parse json.Members) (o : Option (json.Json × List Token)) → converted of_json o ≡ None
        → converted (λ ms. of_members ms old) (option_and_then (λ q. parse_map (json.member k q.0) (more q.1)) o) ≡ None
    no_member k more None e = refl
    no_member k more (Some q) e = without_member k q.0 old (not_made q.1 (of_json q.0) e) (more q.1)

    pub member_refused : (n : ℕ) (k : List ℕ) (ts s : List Token) → read_key ts ≡ Some (Some k, s) → converted of_json (p s) ≡ None → converted (λ ms. of_members ms old) (members p n ts) ≡ None
    unfolding members
    member_refused zero k ts s key e = refl
    member_refused (suc n) k ts s key e = rw key (no_member k (members p n) (p s) e)

    pub key_refused : (n : ℕ) (ts : List Token) → read_key ts ≡ None → converted (λ ms. of_members ms old) (members p n ts) ≡ None
    key_refused n ts e = ap (converted (λ ms. of_members ms old)) (members_no_key p n ts e)

    pub members_over : (n : ℕ) (ts r : List Token) → length ts ≤ n → read_key ts ≡ Some (None, r) → converted (λ ms. of_members ms old) (members p n ts) ≡ Some (old, r)
    members_over n ts r enough e = ap (converted (λ ms. of_members ms old)) (grammar.members_end p n ts r enough e)

-- ---- nexts

-- ---- the count of turns plays no part, where it is enough

abbrev Shortens : Parse json.Json → Type 0
Shortens p = (ts r : List Token) → left (p ts) ≡ Some r → length r < length ts

module _ (p : Parse json.Json) (shorter : Shortens p) where
  next_turn : (n m : ℕ) (ts : List Token) (o : Option (json.Json × List Token)) → p ts ≡ o → length ts ≤ suc n → length ts ≤ suc m
      → ((r : List Token) → length r ≤ n → length r ≤ m → items p n r ≡ items p m r)
      → option_and_then (λ q. parse_map (json.item q.0) (items p n q.1)) o ≡ option_and_then (λ q. parse_map (json.item q.0) (items p m q.1)) o
  next_turn n m ts None e a b same = refl
  next_turn n m ts (Some q) e a b same =
      let less = shorter ts q.1 (ap left e) in
      ap (parse_map (json.item q.0)) (same q.1 (omega (arith, less, a)) (omega (arith, less, b)))

  by_end : (n m : ℕ) (ts : List Token) (o : Option (List Token)) → length ts ≤ suc n → length ts ≤ suc m
      → ((r : List Token) → length r ≤ n → length r ≤ m → items p n r ≡ items p m r)
      → items_step p (items p n) ts o ≡ items_step p (items p m) ts o
  by_end n m ts (Some rest) a b same = refl
  by_end n m ts None a b same = next_turn n m ts (p ts) refl a b same

  nothing_in : (o : Option (json.Json × List Token)) → p [] ≡ o → p [] ≡ None
  nothing_in None e = e
  nothing_in (Some q) e = let never : ⊥ = omega (arith, shorter [] q.1 (ap left e)) in absurd never

  none_left : (m : ℕ) → items p m [] ≡ None
  none_left m = items_fail p m [] refl (nothing_in (p []) refl)

  pub enough_items : (n m : ℕ) (ts : List Token) → length ts ≤ n → length ts ≤ m → items p n ts ≡ items p m ts
  unfolding items
  enough_items zero m [] a b = sym (none_left m)
  enough_items zero m (t ∷ ts) a b = let never : ⊥ = omega arith in absurd never
  enough_items (suc n) zero [] a b = none_left (suc n)
  enough_items (suc n) zero (t ∷ ts) a b = let never : ⊥ = omega arith in absurd never
  enough_items (suc n) (suc m) ts a b = by_end n m ts (after_end_array ts) a b (λ r c d. enough_items n m r c d)

  next_member : (n m : ℕ) (k : List ℕ) (s : List Token) (o : Option (json.Json × List Token)) → p s ≡ o → length s ≤ n → length s ≤ m
      → ((r : List Token) → length r ≤ n → length r ≤ m → members p n r ≡ members p m r)
      → option_and_then (λ q. parse_map (json.member k q.0) (members p n q.1)) o ≡ option_and_then (λ q. parse_map (json.member k q.0) (members p m q.1)) o
  next_member n m k s None e a b same = refl
  next_member n m k s (Some q) e a b same =
      let less = shorter s q.1 (ap left e) in
      ap (parse_map (json.member k q.0)) (same q.1 (omega (arith, less, a)) (omega (arith, less, b)))

  by_key : (n m : ℕ) (ts : List Token) (o : Option (Option (List ℕ) × List Token)) → read_key ts ≡ o → length ts ≤ suc n → length ts ≤ suc m
      → ((r : List Token) → length r ≤ n → length r ≤ m → members p n r ≡ members p m r)
      → option_and_then (λ q. members_step p (members p n) q.0 q.1) o ≡ option_and_then (λ q. members_step p (members p m) q.0 q.1) o
  by_key n m ts None e a b same = refl
  by_key n m ts (Some (None, s)) e a b same = refl
  by_key n m ts (Some (Some k, s)) e a b same =
      let less = read_key-shorter ts (Some k) s e in
      next_member n m k s (p s) refl (omega (arith, less, a)) (omega (arith, less, b)) same

  no_members_left : (m : ℕ) → members p m [] ≡ None
  no_members_left m = members_no_key p m [] refl

  pub enough_members : (n m : ℕ) (ts : List Token) → length ts ≤ n → length ts ≤ m → members p n ts ≡ members p m ts
  unfolding members
  enough_members zero m [] a b = sym (no_members_left m)
  enough_members zero m (t ∷ ts) a b = let never : ⊥ = omega arith in absurd never
  enough_members (suc n) zero [] a b = no_members_left (suc n)
  enough_members (suc n) zero (t ∷ ts) a b = let never : ⊥ = omega arith in absurd never
  enough_members (suc n) (suc m) ts a b = by_key n m ts (read_key ts) refl a b (λ r c d. enough_members n m r c d)

-- ---- items

pub next-shorter : (depth : ℕ) (ts r : List Token) (d : Data) → next depth ts ≡ Some (d, r) → length r < length ts
next-shorter depth ts r d e = let j = converted_some of_json (value depth ts) d r e in skip_value-shorter depth ts r (ap left j.1)

pub items_go : (depth : ℕ) (ts r : List Token) (d : Data) → after_end_array ts ≡ None → next depth ts ≡ Some (d, r) → next_items depth ts ≡ parse_map (item d) (next_items depth r)
items_go depth ts r d going e =
    let less = next-shorter depth ts r d e in
    item_read (value depth) (length ts) ts r d (omega (arith, less)) going e
    ∙ ap (λ o. parse_map (item d) (converted of_items o)) (enough_items (value depth) (skip_value-shorter depth) (length ts - 1) (length r) r (omega (arith, less)) (omega arith))

pub items_stop : (depth : ℕ) (ts : List Token) → after_end_array ts ≡ None → next depth ts ≡ None → next_items depth ts ≡ None
items_stop depth ts going e = item_refused (value depth) (length ts) ts going e

pub items_end : (depth : ℕ) (ts r : List Token) → after_end_array ts ≡ Some r → next_items depth ts ≡ Some (no_items, r)
items_end depth ts r e = items_over (value depth) (length ts) ts r (omega arith) e

-- ---- members, behind those that were found

pub members_go : (old : Members) (depth : ℕ) (k : List ℕ) (ts s r : List Token) (d : Data) → read_key ts ≡ Some (Some k, s) → next depth s ≡ Some (d, r) → members_behind old depth ts ≡ members_behind (put k d old) depth r
members_go old depth k ts s r d key e =
    let less = read_key-shorter ts (Some k) s key in
    let lesser = next-shorter depth s r d e in
    member_read (value depth) old (length ts) k ts s r d (omega (arith, less)) key e
    ∙ ap (converted (λ ms. of_members ms (put k d old))) (enough_members (value depth) (skip_value-shorter depth) (length ts - 1) (length r) r (omega (arith, less, lesser)) (omega arith))

pub members_stop : (old : Members) (depth : ℕ) (k : List ℕ) (ts s : List Token) → read_key ts ≡ Some (Some k, s) → next depth s ≡ None → members_behind old depth ts ≡ None
members_stop old depth k ts s key e = member_refused (value depth) old (length ts) k ts s key e

pub members_no_key_left : (old : Members) (depth : ℕ) (ts : List Token) → read_key ts ≡ None → members_behind old depth ts ≡ None
members_no_key_left old depth ts e = key_refused (value depth) old (length ts) ts e

pub members_end : (old : Members) (depth : ℕ) (ts r : List Token) → read_key ts ≡ Some (None, r) → members_behind old depth ts ≡ Some (old, r)
members_end old depth ts r e = members_over (value depth) old (length ts) ts r (omega arith) e

-- ---- nexts

-- ---- by the first token

pub next_nil : (depth : ℕ) → next depth [] ≡ None
next_nil depth = ap (converted of_json) (value_is depth [])

pub next-string : (depth : ℕ) (s : List ℕ) (ts : List Token) → next depth (Token.string s ∷ ts) ≡ Some (string s, ts)
next-string depth s ts = ap (converted of_json) (value_is depth (Token.string s ∷ ts))

pub next-boolean : (depth : ℕ) (b : Bool) (ts : List Token) → next depth (Token.boolean b ∷ ts) ≡ Some (boolean b, ts)
next-boolean depth b ts = ap (converted of_json) (value_is depth (Token.boolean b ∷ ts))

pub next-null : (depth : ℕ) (ts : List Token) → next depth (Token.null ∷ ts) ≡ Some (null, ts)
next-null depth ts = ap (converted of_json) (value_is depth (Token.null ∷ ts))

pub next-number : (depth : ℕ) (s : List ℕ) (ts : List Token) (n : Num) → number_of s ≡ Some n → next depth (Token.number s ∷ ts) ≡ Some (number n, ts)
next-number depth s ts n e = ap (converted of_json) (value_is depth (Token.number s ∷ ts)) ∙ ap (λ o. option_map {U = Data × List Token} (λ d. (d, ts)) (option_map number o)) e

pub next-no_number : (depth : ℕ) (s : List ℕ) (ts : List Token) → number_of s ≡ None → next depth (Token.number s ∷ ts) ≡ None
next-no_number depth s ts e = ap (converted of_json) (value_is depth (Token.number s ∷ ts)) ∙ ap (λ o. option_map {U = Data × List Token} (λ d. (d, ts)) (option_map number o)) e

pub next-too_deep-array : (depth : ℕ) (ts : List Token) → depth ≡ 0 → next depth (Token.begin_array ∷ ts) ≡ None
unfolding value
next-too_deep-array depth ts e = ap (λ d. next d (Token.begin_array ∷ ts)) e

pub next-too_deep-object : (depth : ℕ) (ts : List Token) → depth ≡ 0 → next depth (Token.begin_object ∷ ts) ≡ None
unfolding value
next-too_deep-object depth ts e = ap (λ d. next d (Token.begin_object ∷ ts)) e

pub next_begin_array : (depth : ℕ) (ts : List Token) → 0 < depth → next depth (Token.begin_array ∷ ts) ≡ parse_map array (next_items (depth - 1) ts)
next_begin_array depth ts h = ap (converted of_json) (value-begin_array depth ts h) ∙ converted-array (items (value (depth - 1)) (length ts) ts)

pub next_begin_object : (depth : ℕ) (ts : List Token) → 0 < depth → next depth (Token.begin_object ∷ ts) ≡ parse_map object (next_members (depth - 1) ts)
next_begin_object depth ts h = ap (converted of_json) (value-begin_object depth ts h) ∙ converted-object (members (value (depth - 1)) (length ts) ts)

-- ---- numbers

pub some_number : (o : Option Num) → is_some o ≡ true → (n : Num) × (o ≡ Some n)
some_number None e = absurd (false≢true e)
some_number (Some n) e = (n, refl)

pub no_number : (o : Option Num) → is_some o ≡ false → o ≡ None
no_number None e = refl
no_number (Some n) e = absurd (true≢false e)

-- what was read of the text of a number holds of the value
pub number_answered : {X F : Type 0} (r : Result X F) (P : Num → X → Type 0) (Q : Data → X → Type 0) (depth : ℕ) (text : List ℕ) (rest : List Token) (first : Option (Data × List Token)) → first ≡ next depth (Token.number text ∷ rest)
    → ((n : Num) (x : X) → P n x → Q (number n) x) → IfOk r (λ x. (n : Num) × (number_of text ≡ Some n) × P n x) → IfOk r (Found Q first rest)
number_answered (Ok x) P Q depth text rest first e held (n, same, h) = (number n, e ∙ next-number depth text rest n same, held n x h)
number_answered (Err fault) P Q depth text rest first e held h = tt

-- ---- loops

pub some_left : {A : Type 0} (first : Option (A × List Token)) (rest : List Token) → left first ≡ Some rest → (a : A) × (first ≡ Some (a, rest)) × ⊤
some_left first rest e = let a = left_some first rest e in (a.0, a.1, tt)

-- ---- what a value is by its first token

abbrev value_in : {B : Type 0} → B → Option (B × List Token) → B
value_in b None = b
value_in b (Some p) = p.0

mapped_some : {A B : Type 0} (f : A → B) (o : Option (A × List Token)) (b : B) (r : List Token) → parse_map f o ≡ Some (b, r) → (a : A) × (f a ≡ b)
mapped_some f None b r e = absurd (cc)
mapped_some f (Some p) b r e = (p.0, ap (value_in b) e)

no_next : (t : Token) (depth : ℕ) (ts r : List Token) (d : Data) (P : Type 0) → next depth (t ∷ ts) ≡ None → next depth (t ∷ ts) ≡ Some (d, r) → P
no_next t depth ts r d P none some = let never : None ≡ Some (d, r) = sym none ∙ some in absurd (cc)

-- the property holds of whatever value the token begins
abbrev OfAll : (Data → Type 0) → read.Token → Type 0
OfAll Q kinds.BeginObject = (ms : Members) → Q (object ms)
OfAll Q kinds.EndObject = ⊤
OfAll Q kinds.BeginArray = (xs : Items) → Q (array xs)
OfAll Q kinds.EndArray = ⊤
OfAll Q (kinds.Key s) = ⊤
OfAll Q (kinds.String s) = Q (string s.now)
OfAll Q (kinds.Number s) = (n : Num) → Q (number n)
OfAll Q (kinds.Bool b) = Q (boolean b)
OfAll Q kinds.Null = Q null
OfAll Q kinds.Bad = ⊤

module _ (Q : Data → Type 0) where
  of_number : (o : Option Num) (depth : ℕ) (s : List ℕ) (ts r : List Token) (d : Data) → number_of s ≡ o → next depth (Token.number s ∷ ts) ≡ Some (d, r) → ((n : Num) → Q (number n)) → Q d
  of_number None depth s ts r d is e all = no_next (Token.number s) depth ts r d (Q d) (next-no_number depth s ts is) e
  of_number (Some n) depth s ts r d is e all = subst Q (ap (value_in null) (sym (next-number depth s ts n is) ∙ e)) (all n)

  pub of_token : (t : read.Token) (depth : ℕ) (ts r : List Token) (d : Data) → next depth (token_of t ∷ ts) ≡ Some (d, r) → OfAll Q t → Q d
  of_token kinds.BeginObject zero ts r d e all = no_next Token.begin_object zero ts r d (Q d) (next-too_deep-object zero ts refl) e
  of_token kinds.BeginObject (suc n) ts r d e all =
      let m = mapped_some object (next_members (suc n - 1) ts) d r (sym (next_begin_object (suc n) ts (omega arith)) ∙ e) in
      subst Q m.1 (all m.0)
  of_token kinds.EndObject depth ts r d e all = no_next Token.end_object depth ts r d (Q d) (ap (converted of_json) (value_is depth (Token.end_object ∷ ts))) e
  of_token kinds.BeginArray zero ts r d e all = no_next Token.begin_array zero ts r d (Q d) (next-too_deep-array zero ts refl) e
  of_token kinds.BeginArray (suc n) ts r d e all =
      let m = mapped_some array (next_items (suc n - 1) ts) d r (sym (next_begin_array (suc n) ts (omega arith)) ∙ e) in
      subst Q m.1 (all m.0)
  of_token kinds.EndArray depth ts r d e all = no_next Token.end_array depth ts r d (Q d) (ap (converted of_json) (value_is depth (Token.end_array ∷ ts))) e
  of_token (kinds.Key s) depth ts r d e all = no_next (Token.key s.now) depth ts r d (Q d) (ap (converted of_json) (value_is depth (Token.key s.now ∷ ts))) e
  of_token (kinds.String s) depth ts r d e all = subst Q (ap (value_in null) (sym (next-string depth s.now ts) ∙ e)) all
  of_token (kinds.Number s) depth ts r d e all = of_number (number_of s.now) depth s.now ts r d refl e all
  of_token (kinds.Bool x) depth ts r d e all = subst Q (ap (value_in null) (sym (next-boolean depth x ts) ∙ e)) all
  of_token kinds.Null depth ts r d e all = subst Q (ap (value_in null) (sym (next-null depth ts) ∙ e)) all
  of_token kinds.Bad depth ts r d e all = no_next Token.bad depth ts r d (Q d) (ap (converted of_json) (value_is depth (Token.bad ∷ ts))) e

-- a value of another kind, which was passed over
pub other_value : (P : Data → Type 0) (t : read.Token) (depth : ℕ) (all ts r : List Token) → all ≡ token_of t ∷ ts → OfAll P t → (d : Data) × (next depth (token_of t ∷ ts) ≡ Some (d, r)) × ⊤
    → (d : Data) × (next depth all ≡ Some (d, r)) × P d
other_value P t depth all ts r first held (d, is, passed) = (d, ap (next depth) first ∙ is, of_token P t depth ts r d is held)

pub array_alone : (t : read.Token) → (t ≡ kinds.BeginArray → ⊥) → OfAll (λ d. as_array d ≡ None) t
array_alone kinds.BeginArray a = absurd (a refl)
array_alone _ a = search rules

pub object_alone : (t : read.Token) → (t ≡ kinds.BeginObject → ⊥) → OfAll HasNoNames t
object_alone kinds.BeginObject a = absurd (a refl)
object_alone _ a = search rules

pub text_alone : (t : read.Token) → ((s : Bor (List ℕ)) → t ≡ kinds.String s → ⊥) → OfAll (λ d. None ≡ as_str d) t
text_alone (kinds.String s) a = absurd (a s refl)
text_alone _ a = search rules

pub flag_alone : (t : read.Token) → ((b : Bool) → t ≡ kinds.Bool b → ⊥) → OfAll (λ d. None ≡ as_bool d) t
flag_alone (kinds.Bool x) a = absurd (a x refl)
flag_alone _ a = search rules

pub number_alone : (t : read.Token) → ((s : Bor (List ℕ)) → t ≡ kinds.Number s → ⊥) → OfAll (λ d. None ≡ option_and_then as_u64 (as_number d)) t
number_alone (kinds.Number s) a = absurd (a s refl)
number_alone _ a = search rules

-- ---- behind

-- ---- what stands behind an object does not hang on the members before

by_value : (o : Option Data) (k : List ℕ) (ms : json.Members) (old new : Members) (r : List Token)
    → ((old new : Members) → behind (option_map (λ b. (b, r)) (of_members ms old)) ≡ behind (option_map (λ b. (b, r)) (of_members ms new)))
    → behind (option_map (λ b. (b, r)) (option_and_then (λ d. of_members ms (put k d old)) o)) ≡ behind (option_map (λ b. (b, r)) (option_and_then (λ d. of_members ms (put k d new)) o))
by_value None k ms old new r same = refl
by_value (Some d) k ms old new r same = same (put k d old) (put k d new)

any_before : (ms : json.Members) (r : List Token) (old new : Members) → behind (option_map (λ b. (b, r)) (of_members ms old)) ≡ behind (option_map (λ b. (b, r)) (of_members ms new))
any_before json.no_members r old new = refl
any_before (json.member k j ms) r old new = by_value (of_json j) k ms old new r (any_before ms r)

any_read : (o : Option (json.Members × List Token)) (old new : Members) → behind (converted (λ ms. of_members ms old) o) ≡ behind (converted (λ ms. of_members ms new) o)
any_read None old new = refl
any_read (Some p) old new = any_before p.0 p.1 old new

-- ---- one that is open ends, or goes on with a value

array_ends : (ts r : List Token) → after_end_array ts ≡ Some r → Ends false ts r
array_ends ts r e = λ depth. ap behind (items_end depth ts r e)

object_ends : (ts r : List Token) → read_key ts ≡ Some (None, r) → Ends true ts r
object_ends ts r e = λ depth. ap behind (members_end no_members depth ts r e)

by_item : (depth : ℕ) (ts : List Token) (o : Option (Data × List Token)) → after_end_array ts ≡ None → next depth ts ≡ o → tokens_behind false depth ts ≡ option_and_then (tokens_behind false depth) (behind o)
by_item depth ts None going e = ap behind (items_stop depth ts going e)
by_item depth ts (Some (d, r)) going e = ap behind (items_go depth ts r d going e) ∙ left-parse_map (item d) (next_items depth r)

array_goes_on : (ts : List Token) → after_end_array ts ≡ None → GoesOn false ts ts
array_goes_on ts going = λ depth. by_item depth ts (next depth ts) going refl

by_member : (depth : ℕ) (k : List ℕ) (ts s : List Token) (o : Option (Data × List Token)) → read_key ts ≡ Some (Some k, s) → next depth s ≡ o → tokens_behind true depth ts ≡ option_and_then (tokens_behind true depth) (behind o)
by_member depth k ts s None key e = ap behind (members_stop no_members depth k ts s key e)
by_member depth k ts s (Some (d, r)) key e =
    ap behind (members_go no_members depth k ts s r d key e) ∙ any_read (members (value depth) (length r) r) (put k d no_members) no_members

object_goes_on : (k : List ℕ) (ts s : List Token) → read_key ts ≡ Some (Some k, s) → GoesOn true ts s
object_goes_on k ts s key = λ depth. by_member depth k ts s (next depth s) key refl

-- what a reader took of an object that is open, and of a list
pub key_taken : (key : Option (Bor (List ℕ))) (over : Bool) (ts r : List Token) → read_key ts ≡ Some (option_map (λ k. k.now) key, r) → is_some key ≡ not over → MatchBool over (Ends true ts r) (GoesOn true ts r)
key_taken None true ts r e is = object_ends ts r e
key_taken None false ts r e is = absurd (false≢true is)
key_taken (Some k) true ts r e is = absurd (true≢false is)
key_taken (Some k) false ts r e is = object_goes_on k.now ts r e

pub bracket_taken : (over : Bool) (ts r : List Token) → MatchBool over (after_end_array ts ≡ Some r) ((after_end_array ts ≡ None) × (r ≡ ts)) → MatchBool over (Ends false ts r) (GoesOn false ts r)
bracket_taken true ts r e = array_ends ts r e
bracket_taken false ts r e = subst (GoesOn false ts) (sym e.1) (array_goes_on ts e.0)

pub no_key : (ts : List Token) → read_key ts ≡ None → Fails true ts
no_key ts e = λ depth. ap behind (members_no_key_left no_members depth ts e)

-- ---- one is opened

pub array_begins : Begins Token.begin_array (Some false)
array_begins zero ts = ap behind (next-too_deep-array zero ts refl)
array_begins (suc depth) ts =
    let same : suc depth - 1 ≡ depth = omega arith in
    ap behind (next_begin_array (suc depth) ts (omega arith)) ∙ left-parse_map array (next_items (suc depth - 1) ts) ∙ ap (λ d. behind (next_items d ts)) same

pub object_begins : Begins Token.begin_object (Some true)
object_begins zero ts = ap behind (next-too_deep-object zero ts refl)
object_begins (suc depth) ts =
    let same : suc depth - 1 ≡ depth = omega arith in
    ap behind (next_begin_object (suc depth) ts (omega arith)) ∙ left-parse_map object (next_members (suc depth - 1) ts) ∙ ap (λ d. behind (next_members d ts)) same

opened_at : (kind : Bool) (depth : ℕ) (ts : List Token) → 0 < depth → tokens_behind_next kind depth ts ≡ tokens_behind kind (depth - 1) ts
opened_at kind zero ts h = let never : ⊥ = omega arith in absurd never
opened_at kind (suc depth) ts h = let same : depth ≡ suc depth - 1 = omega arith in ap (λ d. tokens_behind kind d ts) same

pub alone : (t : Token) (kind : Option Bool) → Begins t kind → ((b : Bool) → kind ≡ Some b → ⊥) → Begins t None
alone t None begins never = begins
alone t (Some kind) begins never = absurd (never kind refl)

-- ---- all that are open

-- the tokens behind all of them, the innermost first, where the outermost has that depth inside
abbrev pub all_closed : ℕ → List Bool → List Token → Option (List Token)
all_closed depth [] ts = Some ts
all_closed depth (kind ∷ kinds) ts = option_and_then (all_closed depth kinds) (tokens_behind kind (depth - length kinds) ts)

-- the number has the kinds of all that are open, so many of them inside of the outermost, which ends where they do
abbrev pub AreOpen : Option (List Token) → ℕ → ℕ → ℕ → List Token → Type 0
AreOpen whole depth bits inside ts =
    (kind : Bool) × (kinds : List Bool) × (bits ≡ mask_l (kind ∷ kinds)) × (inside ≡ length kinds) × (inside ≤ depth) × (whole ≡ all_closed depth (kind ∷ kinds) ts)

lowest : (kind : Bool) (n : ℕ) → ((cond kind 1 0 + 2 * n) % 2 == 1) ≡ kind
lowest true n = let odd : (1 + 2 * n) % 2 ≡ 1 = omega arith in ap (λ m. m == 1) odd
lowest false n = let even : (0 + 2 * n) % 2 ≡ 0 = omega arith in ap (λ m. m == 1) even

others : (kind : Bool) (n : ℕ) → (cond kind 1 0 + 2 * n) / 2 ≡ n
others true n = omega arith
others false n = omega arith

end_of_all : (depth : ℕ) (kinds : List Bool) (r : List Token) → length kinds ≡ 0 → all_closed depth kinds r ≡ Some r
end_of_all depth [] r e = refl
end_of_all depth (k ∷ ks) r e = let never : ⊥ = omega (arith, e) in absurd never

one_less : (whole : Option (List Token)) (depth bits inside : ℕ) (kind : Bool) (kinds : List Bool) (r : List Token)
    → bits ≡ mask_l (kind ∷ kinds) → inside ≡ length kinds → inside ≤ depth → 0 < inside → whole ≡ all_closed depth kinds r → AreOpen whole depth (bits / 2) (inside - 1) r
one_less whole depth bits inside kind [] r e n le some is = let never : ⊥ = omega (arith, n, some) in absurd never
one_less whole depth bits inside kind (k ∷ ks) r e n le some is =
    (k, ks, ap (λ m. m / 2) e ∙ others kind (mask_l (k ∷ ks)), omega (arith, n), omega (arith, le), is)

in_turn : (f g : List Token → Option (List Token)) (o : Option (List Token)) → option_and_then f (option_and_then g o) ≡ option_and_then (λ ts. option_and_then f (g ts)) o
in_turn f g None = refl
in_turn f g (Some ts) = refl

its_bit : (kind : Bool) → (bool_byte kind ≡ cond kind 1 0)
its_bit true = refl
its_bit false = refl

pub a_bit : (kind : Bool) → bool_byte kind ≤ 1
a_bit true = omega arith
a_bit false = omega arith

module _ (whole : Option (List Token)) (depth bits inside : ℕ) (ts : List Token) (are : AreOpen whole depth bits inside ts) where
  pub lowest_bit : (bits % 2 == 1) ≡ are.0
  lowest_bit = ap (λ n. n % 2 == 1) are.2 ∙ lowest are.0 (mask_l are.1)

  -- what stands behind all, by what stands behind the innermost
  then_others : (o : Option (List Token)) → tokens_behind are.0 (depth - inside) ts ≡ o → whole ≡ option_and_then (all_closed depth are.1) o
  then_others o e =
      are.5 ∙ ap (λ n. option_and_then (all_closed depth are.1) (tokens_behind are.0 (depth - n) ts)) (sym are.3) ∙ ap (option_and_then (all_closed depth are.1)) e

  pub refused : tokens_behind are.0 (depth - inside) ts ≡ None → whole ≡ None
  refused e = then_others None e

  module _ (r : List Token) where
    -- what was taken of the innermost, whose kind is the lowest bit
    pub its_end : (over : Bool) → MatchBool over (Ends (bits % 2 == 1) ts r) (GoesOn (bits % 2 == 1) ts r) → over ≡ true → Ends are.0 ts r
    its_end over taken e = subst (λ k. Ends k ts r) lowest_bit (subst (λ b. MatchBool b (Ends (bits % 2 == 1) ts r) (GoesOn (bits % 2 == 1) ts r)) e taken)

    pub its_value : (over : Bool) → MatchBool over (Ends (bits % 2 == 1) ts r) (GoesOn (bits % 2 == 1) ts r) → over ≡ false → GoesOn are.0 ts r
    its_value over taken e = subst (λ k. GoesOn k ts r) lowest_bit (subst (λ b. MatchBool b (Ends (bits % 2 == 1) ts r) (GoesOn (bits % 2 == 1) ts r)) e taken)

    pub outermost_ends : inside ≡ 0 → Ends are.0 ts r → whole ≡ Some r
    outermost_ends none ends = then_others (Some r) (ends (depth - inside)) ∙ end_of_all depth are.1 r (sym are.3 ∙ none)

    pub innermost_ends : 0 < inside → Ends are.0 ts r → AreOpen whole depth (bits / 2) (inside - 1) r
    innermost_ends some ends = one_less whole depth bits inside are.0 are.1 r are.2 are.3 are.4 some (then_others (Some r) (ends (depth - inside)))

    pub value_refused : GoesOn are.0 ts r → next (depth - inside) r ≡ None → whole ≡ None
    value_refused goes e = refused (goes (depth - inside) ∙ ap (λ o. option_and_then (tokens_behind are.0 (depth - inside)) (behind o)) e)

    at_value : (o : Option (List Token)) → GoesOn are.0 ts r → behind (next (depth - inside) r) ≡ o
        → whole ≡ option_and_then (λ s. option_and_then (all_closed depth are.1) (tokens_behind are.0 (depth - length are.1) s)) o
    at_value o goes e =
        then_others (option_and_then (tokens_behind are.0 (depth - inside)) o) (goes (depth - inside) ∙ ap (option_and_then (tokens_behind are.0 (depth - inside))) e)
        ∙ ap (λ n. option_and_then (all_closed depth are.1) (option_and_then (tokens_behind are.0 (depth - n)) o)) are.3
        ∙ in_turn (all_closed depth are.1) (tokens_behind are.0 (depth - length are.1)) o

    pub value_passed : (s : List Token) → GoesOn are.0 ts r → behind (next (depth - inside) r) ≡ Some s → AreOpen whole depth bits inside s
    value_passed s goes e = (are.0, are.1, are.2, are.3, are.4, at_value (Some s) goes e)

    pub one_more : (kind : Bool) (bit : ℕ) (s : List Token) → bit ≡ bool_byte kind → GoesOn are.0 ts r → behind (next (depth - inside) r) ≡ tokens_behind_next kind (depth - inside) s → inside < depth
        → AreOpen whole depth (bits * 2 + bit) (inside + 1) s
    one_more kind bit s lowest goes e less =
        let same : depth - inside - 1 ≡ depth - length (are.0 ∷ are.1) = omega (arith, are.3, less) in
        let is : tokens_behind_next kind (depth - inside) s ≡ tokens_behind kind (depth - length (are.0 ∷ are.1)) s =
        opened_at kind (depth - inside) s (omega (arith, less)) ∙ ap (λ d. tokens_behind kind d s) same in
        (kind, are.0 ∷ are.1, omega (arith, are.2, lowest, its_bit kind), omega (arith, are.3), omega (arith, less), at_value (tokens_behind kind (depth - length (are.0 ∷ are.1)) s) goes (e ∙ is))

pub below_bits : (whole : Option (List Token)) (depth bits inside most : ℕ) (ts : List Token) → AreOpen whole depth bits inside ts → inside < most → bits < 2 ^ most
below_bits whole depth bits inside most ts are few =
    let short : length (are.0 ∷ are.1) ≤ most = omega (arith, are.3, few) in
    let fits : 2 ^ length (are.0 ∷ are.1) ≤ 2 ^ most = pow-le-pow_right (omega arith) short in
    omega (arith, are.2, mask_l-lt (are.0 ∷ are.1), fits)
