-- A text is one value of a form at most. Members of the coterie by the test of their numbers. Slots of an object: what
-- changes in them where a member is taken. A member of the coterie is no longer than the tree has leaves, so a longer
-- list is none.
-- Members that are taken in the order of their names: what stands in the slots of those names.
use Rattle.std.proofs.Common.{◌≡◌, ℕ, List, Option, Some, None, refl, sym, ap, ◌∙◌, Bool, true, false, cond, ◌-◌, ◌<◌, ◌≤◌, zero, suc, ◌||◌, ◌+◌, [], ◌∷◌, length, get_or, drop, arith, ◌^◌, ◌==◌, nat_lt, codes, ◌≢◌, subst}
use Rattle.std.proofs.lemmas.Bool.{false≢true, and_parts, or_parts, not-true, false_from_ne_true, le-leb, leb-false}
use Rattle.std.proofs.lemmas.{Map.Views.{list_any-from_Contains, Contains-from_any}, List.{drop_more, drop_all}}
use Rattle.std.proofs.{lemmas.{Slice.Eq.bytes_eq-Decides, List.Elements.All-contains, Nat.pow_pos}, Math.Pow.pow_mono}
use Rattle.std.specs.{Option.SomeIff, List.{Contains, All}, Cmp.Lexicographic.{nat_list_eq_equiv, same_text}}
use Rattle.std.specs.{Prelude.{◌&&◌, nat_le, IfOk, MatchOption, Result, Ok, Err, ◌||◌}, Borrow.Bor, Str.bytes_eq}
use Rattle.serde_json.specs.{Data.{Data, Members, put}, Find.get_member}
use Rattle.tq_json_read.specs.{Frame.IsAlone, Views.member_of}
use Rattle.tq_json_read.specs.Slots.{Names, with, Slots, slots_at, with_slot, texts, IsNameAt, is_among, are_distinct, within_cap, HasNone, SameBut, IsNameTaken, IsTakenInOrder}
use Rattle.tq_json.specs.{Next.{members_behind, Found, next}, Member.◌>>=◌}
use Rattle.tq_coterie.specs.Coterie.{ServerList, coterie, is_quorum, union_of, members, with_server}
use Rattle.json.specs.{Token.Token, Json.read_key}
use native.Mathlib.Nat.{two-pow-succ}
use Rattle.tq_live.specs.declared.view.ViewReply.TheVariants.{CostSet, Marked, Chosen, Refused}
use Rattle.tq_live.specs.declared.view.ViewRefusal.TheVariants.{NoSuchServer, BadCost, Blocked}
use Rattle.tq_coterie.proofs.Members.{members-all}
use Rattle.tq_json_read.specs.Views as views
use Rattle.tq_json.proofs.Nexts.{members_go}
use Rattle.serde_json.proofs.Views.{get_member-put, get_member-put_other}

pub alone-once : {X : Type 0} (form : Data → Option X) (text : List ℕ) (x y : Option X) → IsAlone form text x → IsAlone form text y → x ≡ y
alone-once form text (Some x) (Some y) p q =
    let read : Some p.0 ≡ Some q.0 = sym p.1.1 ∙ q.1.1 in
    let same : p.0 ≡ q.0 = cc in
    sym p.2 ∙ ap form same ∙ q.2
alone-once form text (Some x) None p q = sym p.2 ∙ q p.0 p.1
alone-once form text None (Some y) p q = sym (p q.0 q.1) ∙ q.2
alone-once form text None None p q = refl

-- ---- memberships

by_test : {T : Type 0} (o : Option T) (P : Type 0) (v : T) (b : Bool) → SomeIff o P v → (b ≡ true → P) → (P → b ≡ true) → o ≡ cond b (Some v) None
by_test None P v true h good bad = absurd (h (good refl))
by_test None P v false h good bad = refl
by_test (Some x) P v true h good bad = ap Some h.1
by_test (Some x) P v false h good bad = absurd (false≢true (bad h.0))

pub member_from : (levels : ℕ) (numbers : List ℕ) (o : Option ServerList) → SomeIff o (Contains (coterie levels) numbers) (record { servers = numbers; levels = levels })
    → o ≡ member_of levels numbers
member_from levels numbers o h =
    by_test o (Contains (coterie levels) numbers) (record { servers = numbers; levels = levels }) (is_quorum levels numbers) h
    (λ e. Contains-from_any (λ x y same. same_text x y (sym same)) numbers (coterie levels) e)
    (λ e. list_any-from_Contains nat_list_eq_equiv numbers (coterie levels) e)

-- ---- places

-- the same value by another word for it
pub found_as : {X D F : Type 0} (r : Result X F) (P Q : D → X → Type 0) (first : Option (D × List Token)) (rest : List Token) → ((d : D) (x : X) → P d x → Q d x) → IfOk r (Found P first rest) → IfOk r (Found Q first rest)
found_as (Ok x) P Q first rest h (d, e, p) = (d, e, h d x p)
found_as (Err fault) P Q first rest h p = tt

pair_same : {A R : Type 0} (a b : A) (r s : R) → a ≡ b → r ≡ s → ◌≡◌ {A = A × R} (a, r) (b, s)
pair_same a b r s p q = λ i. (p i, q i)

module _ {A R : Type 0} (at : Option Data → A) (of : Slots → R) (d : Data) (values : Slots) (a : A) (r : R) where
  pub filled_first : (place : ℕ) → place ≤ 0 → a ≡ at (Some d) → r ≡ of (λ i. values (suc i))
      → ◌≡◌ {A = A × R} (a, r) (at (with_slot place d values zero), of (λ i. with_slot place d values (suc i)))
  filled_first zero h p q = pair_same _ _ _ _ p q
  filled_first (suc n) h p q = absurd (omega (arith, h))

  pub filled_later : (place : ℕ) → 0 < place → a ≡ at (values zero) → r ≡ of (with_slot (place - 1) d (λ i. values (suc i)))
      → ◌≡◌ {A = A × R} (a, r) (at (with_slot place d values zero), of (λ i. with_slot place d values (suc i)))
  filled_later zero h p q = absurd (omega (arith, h))
  filled_later (suc n) h p q = let e : suc n - 1 ≡ n = omega arith in pair_same _ _ _ _ p (q ∙ ap (λ m. of (with_slot m d (λ i. values (suc i)))) e)

same_name : (key : List ℕ) → bytes_eq key key ≡ true
same_name key = (bytes_eq-Decides key key).1 refl

flipped : (a b : List ℕ) → bytes_eq a b ≡ false → bytes_eq b a ≡ false
flipped a b h = false_from_ne_true _ (λ e. false≢true (sym h ∙ (bytes_eq-Decides a b).1 (sym ((bytes_eq-Decides b a).0 e))))

-- another name than that in a place
unlike : (name key : List ℕ) (keys : List (List ℕ)) (place : ℕ) → is_among name keys ≡ false → place < length keys → get_or keys place [] ≡ key → bytes_eq key name ≡ false
unlike name key [] place e h at = absurd (omega (arith, h))
unlike name key (k ∷ ks) zero e h at = flipped name key (ap (bytes_eq name) (sym at) ∙ (or_parts _ _ e).0)
unlike name key (k ∷ ks) (suc p) e h at = unlike name key ks p (or_parts _ _ e).1 (omega (arith, h)) at

module _ (key : List ℕ) (d : Data) (names : Names) where
  pub apart : (keys : List (List ℕ)) → is_among key keys ≡ false → (i : ℕ) → slots_at keys names i ≡ slots_at keys (with key d names) i
  apart [] e i = refl
  apart (k ∷ ks) e zero = sym (ap (λ b. cond b (Some d) (names k)) (or_parts _ _ e).0)
  apart (k ∷ ks) e (suc i) = apart ks (or_parts _ _ e).1 i

  pub filled_at : (keys : List (List ℕ)) → are_distinct keys ≡ true → (place : ℕ) → place < length keys → get_or keys place [] ≡ key → (i : ℕ) → with_slot place d (slots_at keys names) i ≡ slots_at keys (with key d names) i
  filled_at [] each place h at i = absurd (omega (arith, h))
  filled_at (k ∷ ks) each zero h at zero = sym (ap (λ b. cond b (Some d) (names k)) (ap (bytes_eq key) at ∙ same_name key))
  filled_at (k ∷ ks) each zero h at (suc i) = apart ks (ap (λ n. is_among n ks) (sym at) ∙ not-true _ (and_parts _ _ each).0) i
  filled_at (k ∷ ks) each (suc p) h at zero = sym (ap (λ b. cond b (Some d) (names k)) (unlike k key ks p (not-true _ (and_parts _ _ each).0) (omega (arith, h)) at))
  filled_at (k ∷ ks) each (suc p) h at (suc i) = filled_at ks (and_parts _ _ each).1 p (omega (arith, h)) at i

  pub all_filled : (keys : List (List ℕ)) (place : ℕ) → are_distinct keys ≡ true → place < length keys → get_or keys place [] ≡ key → with_slot place d (slots_at keys names) ≡ slots_at keys (with key d names)
  all_filled keys place each h at = λ j i. filled_at keys each place h at i j

  pub none_filled : (keys : List (List ℕ)) → is_among key keys ≡ false → slots_at keys names ≡ slots_at keys (with key d names)
  none_filled keys e = λ j i. apart keys e i j

none_at : (keys : List (List ℕ)) (i : ℕ) → None ≡ slots_at keys (λ name. None) i
none_at [] i = refl
none_at (k ∷ ks) zero = refl
none_at (k ∷ ks) (suc i) = none_at ks i

pub empty_slots : (keys : List (List ℕ)) → (λ place. None) ≡ slots_at keys (λ name. None)
empty_slots keys = λ j i. none_at keys i j

-- ---- the search of a name

pub length-texts : (names : List (Bor (List ℕ))) → length (texts names) ≡ length names
length-texts [] = refl
length-texts (n ∷ ns) = ap suc (length-texts ns)

pub text_in : (names : List (Bor (List ℕ))) (place : ℕ) (other : Bor (List ℕ)) → place < length names → get_or (texts names) place [] ≡ (get_or names place other).now
text_in [] place other h = absurd (omega (arith, h))
text_in (n ∷ ns) zero other h = refl
text_in (n ∷ ns) (suc p) other h = text_in ns p other (omega (arith, h))

pub found_at : (name : List ℕ) (names : List (Bor (List ℕ))) (place : ℕ) (other : Bor (List ℕ)) (b : Bool) → place < length names → b ≡ bytes_eq name (get_or names place other).now → b ≡ true → get_or (texts names) place [] ≡ name
found_at name names place other b h is e = text_in names place other h ∙ sym ((bytes_eq-Decides name (get_or names place other).now).0 (sym is ∙ e))

pub passed : (name : List ℕ) (names : List (Bor (List ℕ))) (place : ℕ) (other : Bor (List ℕ)) (b : Bool) → place < length names → b ≡ bytes_eq name (get_or names place other).now → b ≡ false
    → is_among name (drop (place + 1) (texts names)) ≡ is_among name (drop place (texts names))
passed name names place other b h is e =
    let keys : List (List ℕ) = texts names in
    let within : place < length keys = omega (arith, h, length-texts names) in
    let unlike_it : bytes_eq name (get_or keys place []) ≡ false = ap (bytes_eq name) (text_in names place other h) ∙ sym is ∙ e in
    sym (ap (is_among name) (drop_more keys place [] within) ∙ ap (λ c. c || is_among name (drop (place + 1) keys)) unlike_it)

pub none_behind : (name : List ℕ) (names : List (Bor (List ℕ))) (slot : ℕ) → length names ≤ slot → is_among name (drop slot (texts names)) ≡ false
none_behind name names slot h = ap (is_among name) (drop_all slot (texts names) (omega (arith, h, length-texts names)))

-- what is asked of a slot, where the answer is yes
pub wanted_at : (first slot : ℕ) (same b : Bool) → b ≡ (nat_le first slot && same) → b ≡ true → same ≡ true
wanted_at first slot same b is e = (and_parts _ _ (sym is ∙ e)).1

not_wanted : (first slot : ℕ) (same b : Bool) → b ≡ (nat_le first slot && same) → b ≡ false → first ≤ slot → same ≡ false
not_wanted first slot same b is e h = sym (is ∙ ap (λ x. x && same) (le-leb first slot h)) ∙ e

from_none : {P Q : Type 0} (R : ℕ → Type 0) (r : Option ℕ) → (P → Q) → MatchOption r P R → MatchOption r Q R
from_none R None f h = f h
from_none R (Some place) f h = h

-- where the name is not in that slot, what the slots behind it have decides
pub still_none : (name : List ℕ) (names : List (Bor (List ℕ))) (slot first : ℕ) (other : Bor (List ℕ)) (b : Bool) (r : Option ℕ) → slot < length names
    → b ≡ (nat_le first slot && bytes_eq name (get_or names slot other).now) → b ≡ false
    → MatchOption r (first ≤ slot + 1 → is_among name (drop (slot + 1) (texts names)) ≡ false) (IsNameAt name (texts names))
    → MatchOption r (first ≤ slot → is_among name (drop slot (texts names)) ≡ false) (IsNameAt name (texts names))
still_none name names slot first other b r within is e behind =
    from_none (IsNameAt name (texts names)) r (λ none start.
    sym (passed name names slot other _ within refl (not_wanted first slot _ b is e start)) ∙ none (omega (arith, start))) behind

-- ---- short

length-placed : (server first : ℕ) (rest more : List ℕ) (b : Bool) → length more ≡ suc (length rest) → length (cond b (server ∷ first ∷ rest) (first ∷ more)) ≡ suc (suc (length rest))
length-placed server first rest more true e = refl
length-placed server first rest more false e = ap suc e

length-with_server : (server : ℕ) (xs : List ℕ) → length (with_server server xs) ≡ suc (length xs)
length-with_server server [] = refl
length-with_server server (first ∷ rest) = length-placed server first rest (with_server server rest) (nat_lt server first) (length-with_server server rest)

length-joined : (xs ys : List ℕ) → length (union_of xs ys) ≡ length xs + length ys
length-joined [] ys = omega arith
length-joined (x ∷ xs) ys = let one = length-with_server x (union_of xs ys) in omega (arith, one, length-joined xs ys)

-- no more servers than the leaves of the subtree
abbrev IsShort : ℕ → ℕ → List ℕ → Type 0
IsShort height top servers = length servers ≤ 2 ^ height

more_on_top : (height top : ℕ) (xs : List ℕ) → length xs ≤ 2 ^ height → length (top ∷ xs) ≤ 2 ^ suc height
more_on_top height top xs h = omega (arith, h, two-pow-succ height, pow_pos height)

from_both : (height : ℕ) (xs ys : List ℕ) → length xs ≤ 2 ^ height → length ys ≤ 2 ^ height → length (union_of xs ys) ≤ 2 ^ suc height
from_both height xs ys h k = omega (arith, h, k, two-pow-succ height, length-joined xs ys)

one_leaf : (top : ℕ) → IsShort zero top (top ∷ [])
one_leaf top = omega arith

members-short : (height top : ℕ) → All (IsShort height top) (members height top)
members-short = members-all IsShort one_leaf (λ height top q h. more_on_top height top q h) (λ height top p h. more_on_top height top p h) (λ height top q p h k. from_both height q p h k)

no_quorum : (levels : ℕ) (numbers : List ℕ) → nat_le (length numbers) (2 ^ levels) ≡ false → is_quorum levels numbers ≡ false
no_quorum levels numbers long =
    false_from_ne_true (is_quorum levels numbers) (λ e.
    let at : Contains (coterie levels) numbers = Contains-from_any (λ x y same. same_text x y (sym same)) numbers (coterie levels) e in
    let short : length numbers ≤ 2 ^ (levels - 1) = All-contains (IsShort (levels - 1) 1) (coterie levels) numbers (members-short (levels - 1) 1) at in
    let fewer : 2 ^ (levels - 1) ≤ 2 ^ levels = pow_mono (omega arith) in
    let more : 2 ^ levels < length numbers = leb-false (length numbers) (2 ^ levels) long in
    omega (arith, short, fewer, more))

module _ {B : Type 0} (levels : ℕ) (f : ServerList → Option B) where
  by_length : (numbers : List ℕ) (b : Bool) → nat_le (length numbers) (2 ^ levels) ≡ b
      → (views.kept (cond b (Some numbers) None) >>= λ s. views.member_of levels s.numbers >>= f) ≡ (views.member_of levels numbers >>= f)
  by_length numbers true e = refl
  by_length numbers false e = ap (λ b. cond b (Some (record { servers = numbers; levels = levels })) None >>= f) (sym (no_quorum levels numbers e))

  -- a list that is too long is left out, and is none of the members
  by_list : (o : Option (List ℕ)) → (views.kept (within_cap (Some (2 ^ levels)) o) >>= λ s. views.member_of levels s.numbers >>= f) ≡ (views.kept o >>= λ s. views.member_of levels s.numbers >>= f)
  by_list None = refl
  by_list (Some numbers) = by_length numbers (nat_le (length numbers) (2 ^ levels)) refl

module _ (levels : ℕ) (o : Option (List ℕ)) where
  chosen_by : (cost : Option ℕ) → views.chosen_reply levels cost (views.kept (within_cap (Some (2 ^ levels)) o)) ≡ views.chosen_reply levels cost (views.kept o)
  chosen_by None = refl
  chosen_by (Some cost) = by_list levels (λ quorum. Some (Chosen quorum cost)) o

  refused_by : (code : Option ℕ) → views.view_refused levels code (views.kept (within_cap (Some (2 ^ levels)) o)) ≡ views.view_refused levels code (views.kept o)
  refused_by None = refl
  refused_by (Some code) =
      ap (λ o. cond (code == 31) (Some (Refused NoSuchServer)) (cond (code == 32) (Some (Refused BadCost)) (cond (code == 33) o None)))
      (by_list levels (λ blocker. Some (Refused (Blocked blocker))) o)

  -- the reply is the same without lists that are too long
  pub reply_read : (kind : Option (List ℕ)) (code cost : Option ℕ) → views.view_reply_by levels kind code cost (views.kept (within_cap (Some (2 ^ levels)) o)) ≡ views.view_reply_by levels kind code cost (views.kept o)
  reply_read None code cost = refl
  reply_read (Some kind) code cost = λ i.
      cond (bytes_eq kind (codes "costset")) (Some CostSet)
      (cond (bytes_eq kind (codes "marked")) (Some Marked)
      (cond (bytes_eq kind (codes "chosen")) (chosen_by cost i)
      (cond (bytes_eq kind (codes "refused")) (refused_by code i) None)))

-- ---- ordered

itself : (key : List ℕ) → bytes_eq key key ≡ true
itself key = (bytes_eq-Decides key key).1 refl

first_is_among : (k : List ℕ) (keys : List (List ℕ)) → is_among k (k ∷ keys) ≡ true
first_is_among k keys = ap (λ b. b || is_among k keys) (itself k)

later_is_among : (name k : List ℕ) (keys : List (List ℕ)) (b : Bool) → bytes_eq name k ≡ b → is_among name keys ≡ true → is_among name (k ∷ keys) ≡ true
later_is_among name k keys true e h = ap (λ b. b || is_among name keys) e
later_is_among name k keys false e h = ap (λ b. b || is_among name keys) e ∙ h

none_later : (k : List ℕ) (keys : List (List ℕ)) (found : Members) → HasNone (k ∷ keys) found → HasNone keys found
none_later k keys found none name h = none name (later_is_among name k keys (bytes_eq name k) refl h)

none_slot : (keys : List (List ℕ)) (found : Members) → HasNone keys found → (i : ℕ) → None ≡ slots_at keys (λ name. get_member name found) i
none_slot [] found none i = refl
none_slot (k ∷ keys) found none zero = sym (none k (first_is_among k keys))
none_slot (k ∷ keys) found none (suc i) = none_slot keys found (none_later k keys found none) i

none_slots : (keys : List (List ℕ)) (found : Members) → HasNone keys found → (λ place. None) ≡ slots_at keys (λ name. get_member name found)
none_slots keys found none = λ j i. none_slot keys found none i j

pub nothing_taken : {S : Type 0} (of : Slots → S) (keys : List (List ℕ)) (old : Members) (depth : ℕ) (slots : S) (ts : List Token) → HasNone keys old → slots ≡ of (λ place. None)
    → IsTakenInOrder of keys old (members_behind old depth ts) depth slots ts
nothing_taken of keys old depth slots ts none is = (old, refl, is ∙ ap of (none_slots keys old none), λ name other_name. refl)

pub pair : {A R : Type 0} (a b : A) (r s : R) → a ≡ b → r ≡ s → ◌≡◌ {A = A × R} (a, r) (b, s)
pair a b r s p q = λ i. (p i, q i)

alone : (k : List ℕ) (keys : List (List ℕ)) → are_distinct (k ∷ keys) ≡ true → is_among k keys ≡ false
alone k keys each = not-true _ (and_parts _ _ each).0

unlike_all : (k name : List ℕ) (keys : List (List ℕ)) → is_among k keys ≡ false → is_among name keys ≡ true → name ≢ k
unlike_all k name keys e h same = false≢true (sym e ∙ ap (λ n. is_among n keys) (sym same) ∙ h)

-- of what was found at other names than this the same is left
pub none_still : (k : List ℕ) (keys all : List (List ℕ)) (old mid : Members) → k ∷ keys ≡ all → are_distinct all ≡ true → SameBut k old mid → HasNone all old → HasNone keys mid
none_still k keys all old mid split each same none name h =
    same name (false_from_ne_true _ (λ e. unlike_all k name keys (alone k keys (ap are_distinct split ∙ each)) h ((bytes_eq-Decides name k).0 e)))
    ∙ none_later k keys old (subst (λ l. HasNone l old) (sym split) none) name h

pub none_first : (k : List ℕ) (keys all : List (List ℕ)) (old : Members) → k ∷ keys ≡ all → HasNone all old → get_member k old ≡ None
none_first k keys all old e none = none k (ap (is_among k) (sym e) ∙ first_is_among k keys)

module _ {A R : Type 0} (at : Option Data → A) (of : Slots → R) (k : List ℕ) (keys : List (List ℕ)) (old mid : Members) (before after : Option (Members × List Token)) (depth : ℕ) (first : A) (rest : R) (ts : List Token) where
  abbrev both : Slots → A × R
  both values = (at (values zero), of (λ place. values (suc place)))

  taken_here : are_distinct (k ∷ keys) ≡ true → before ≡ after → first ≡ at (get_member k mid) → SameBut k old mid → IsTakenInOrder of keys mid after depth rest ts → IsTakenInOrder both (k ∷ keys) old before depth (first, rest) ts
  taken_here each e is same t = (
    t.0,
    e ∙ t.1,
    pair _ _ _ _ (is ∙ ap at (sym (t.3 k (alone k keys each)))) t.2,
    λ name other_name.
        t.3 name (or_parts _ _ other_name).1 ∙ same name (or_parts _ _ other_name).0,
  )

  pub taken_first : (all : List (List ℕ)) → k ∷ keys ≡ all → are_distinct all ≡ true → before ≡ after → first ≡ at (get_member k mid) → SameBut k old mid → IsTakenInOrder of keys mid after depth rest ts
      → IsTakenInOrder both all old before depth (first, rest) ts
  taken_first all split each e is same t =
      subst (λ l. IsTakenInOrder both l old before depth (first, rest) ts) split (taken_here (ap are_distinct split ∙ each) e is same t)

-- ---- a member by its name

pub put_at_name : (name : List ℕ) (d : Data) (old : Members) → get_member name (put name d old) ≡ Some d
put_at_name name d old = get_member-put name d old

pub put_elsewhere : (name : List ℕ) (d : Data) (old : Members) → SameBut name old (put name d old)
put_elsewhere name d old other_name differs =
    get_member-put_other other_name name d old (λ same. false≢true (sym differs ∙ (bytes_eq-Decides other_name name).1 same))

-- ---- the names from a slot on

pub names_from : (names : List (Bor (List ℕ))) (slot : ℕ) (other : Bor (List ℕ)) → slot < length names → (get_or names slot other).now ∷ drop (slot + 1) (texts names) ≡ drop slot (texts names)
names_from names slot other h =
    sym (drop_more (texts names) slot [] (omega (arith, h, length-texts names)) ∙ ap (λ k. k ∷ drop (slot + 1) (texts names)) (text_in names slot other h))

pub distinct_later : (k : List ℕ) (keys all : List (List ℕ)) → k ∷ keys ≡ all → are_distinct all ≡ true → are_distinct keys ≡ true
distinct_later k keys all e each = (and_parts _ _ (ap are_distinct e ∙ each)).1

-- a member that was read after its key
pub named : {A F : Type 0} (r : Result A F) (at : Option Data → A) (name : List ℕ) (old : Members) (depth : ℕ) (ts s rest : List Token) → read_key ts ≡ Some (Some name, s)
    → IfOk r (Found (λ d item. item ≡ at (Some d)) (next depth s) rest) → IfOk r (λ it. IsNameTaken at name old (members_behind old depth ts) depth it rest)
named (Ok item) at name old depth ts s rest key (d, e, is) = (put name d old, members_go old depth name ts s rest d key e, is ∙ ap at (sym (put_at_name name d old)), put_elsewhere name d old)
named (Err fault) at name old depth ts s rest key held = tt

-- the same of what stood before
pub from_there : {X D F : Type 0} (r : Result X F) (P : D → X → Type 0) (a b : Option (D × List Token)) (rest : List Token) → a ≡ b → IfOk r (Found P b rest) → IfOk r (Found P a rest)
from_there r P a b rest e h = subst (λ o. IfOk r (Found P o rest)) (sym e) h
