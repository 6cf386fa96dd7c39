-- A map by name, as the finite map that contracts see. The table of a vote's locks tells whether one is held since.
-- The write ops in order by file are those ops.
use Rattle.std.proofs.Common.{◌≡◌, ℕ, cond, List, [], ◌∷◌, Some, refl, ap, sym, ◌∙◌, Bool, true, false, Option, None, arith, take, drop, fold, filter, subst, ◌⊎◌, inl, inr}
use Rattle.std.proofs.lemmas.{Bool.Decides.nat_tests, List.take-append-drop}
use Rattle.std.specs.{BTreeMap.{BTreeMap, is_at}, Cmp.eq_by_cmp_equiv, List.{insert as put_into, list_any, list_all}}
use Rattle.std.specs.{Cmp.Lexicographic.{nat_list_cmp_total, texts_ties}, Map.lookup, Ordering.eq_by_cmp}
use Rattle.std.specs.FinMap.{find, get, insert, from_entries, get-from_entries, get-insert, same_map, nat_cmp-IsAntisymmetric, slice_cmp-IsAntisymmetric}
use Rattle.std.specs.{Prelude.{◌&&◌, ◌||◌, nat_le, min}, Cmp.Derive.both_true}
use Rattle.std.specs.BTreeMap as ordered
use Rattle.tq_store.{specs.{Copies.name_cmp, Names.same_name}, proofs.Padded.same_name-is}
use Rattle.std.specs.FinMap as fin
use Rattle.tq_asks.specs.declared.ask.HeldLock.{HeldLock}
use Rattle.tq_evidence.specs.Evidence.{LeastSince, is_since, least_since, lesser, with_since, noted_all, is_write, place_of, put_op, rises, servers_of, writes_by_file, are_in_order}
use Rattle.tq_evidence.specs.declared.op.Op.{Op}
use Rattle.tq_shape.{specs.Journal.Has, proofs.Places.{Has-append, append-Has, all-Has, Has-filter}}

module _ {X : Type 0} where
  find_at : (q : List ℕ) (es : List (List ℕ × X)) → find name_cmp q es ≡ lookup (is_at (name_cmp q)) es
  find_at q [] = refl
  find_at q (e ∷ es) = ap (cond (is_at (name_cmp q) e.0) (Some e.1)) (find_at q es)

  -- what the finite map has at a name
  pub get_at : (map : BTreeMap (List ℕ) X) (q : List ℕ) → ordered.get name_cmp map q ≡ get (from_entries {R = name_cmp} map.entries) q
  get_at map q = sym (get-from_entries nat_list_cmp_total map.entries q ∙ find_at q map.entries)

  -- a map with one more value is the finite map with it
  pub put_at : (old new : BTreeMap (List ℕ) X) (name : List ℕ) (x : X) → ordered.Updates name_cmp old new name (Some x) → from_entries {R = name_cmp} new.entries ≡ insert (from_entries old.entries) name x
  put_at old new name x updates = same_map nat_list_cmp_total (slice_cmp-IsAntisymmetric nat_cmp-IsAntisymmetric) _ _ (λ q.
      sym (get_at new q) ∙ updates.0 q
      ∙ ap (λ b. cond b (Some x) (ordered.get name_cmp old q)) ((eq_by_cmp_equiv nat_list_cmp_total).symm name q)
      ∙ ap (cond (eq_by_cmp name_cmp q name) (Some x)) (get_at old q)
      ∙ sym (get-insert nat_list_cmp_total (from_entries old.entries) name x q))

-- ---- held table

min-le : (known since number : ℕ) → nat_le (min since known) number ≡ (nat_le known number || nat_le since number)
min-le known since number = grind (arith, nat_tests)

is_since-lesser : (known : Option ℕ) (since number : ℕ) → nat_le (lesser known since) number ≡ (is_since known number || nat_le since number)
is_since-lesser None since number = refl
is_since-lesser (Some known) since number = min-le known since number

or_false : (a b : Bool) → a ≡ (a || (false && b))
or_false true b = refl
or_false false b = refl

-- one lock more
is_since-noted : (least : LeastSince) (lock : HeldLock) (file : List ℕ) (number : ℕ)
    → is_since (fin.get (with_since least lock.file lock.since) file) number ≡ (is_since (fin.get least file) number || (same_name lock.file file && nat_le lock.since number))
is_since-noted least lock file number =
    ap (λ o. is_since o number) (fin.get-insert nat_list_cmp_total least lock.file (lesser (fin.get least lock.file) lock.since) file)
    ∙ ap (λ b. is_since (cond b (Some (lesser (fin.get least lock.file) lock.since)) (fin.get least file)) number)
    (sym (texts_ties lock.file file ∙ (eq_by_cmp_equiv nat_list_cmp_total).symm lock.file file))
    ∙ by (same_name lock.file file) refl
  where
    by : (b : Bool) → same_name lock.file file ≡ b
        → is_since (cond b (Some (lesser (fin.get least lock.file) lock.since)) (fin.get least file)) number ≡ (is_since (fin.get least file) number || (b && nat_le lock.since number))
    by true same =
        is_since-lesser (fin.get least lock.file) lock.since number
        ∙ ap (λ name. is_since (fin.get least name) number || nat_le lock.since number) (same_name-is lock.file file same)
    by false other = or_false (is_since (fin.get least file) number) (nat_le lock.since number)

or_assoc : (a b c : Bool) → ((a || b) || c) ≡ (a || (b || c))
or_assoc true b c = refl
or_assoc false b c = refl

is_since-noted_all : (held : List HeldLock) (least : LeastSince) (file : List ℕ) (number : ℕ)
    → is_since (fin.get (noted_all least held) file) number ≡ (is_since (fin.get least file) number || list_any (λ lock. same_name lock.file file && nat_le lock.since number) held)
is_since-noted_all [] least file number = or_nothing (is_since (fin.get least file) number)
  where
    or_nothing : (a : Bool) → a ≡ (a || false)
    or_nothing true = refl
    or_nothing false = refl
is_since-noted_all (lock ∷ held) least file number =
    let rest = list_any (λ (l : HeldLock). same_name l.file file && nat_le l.since number) held in
    is_since-noted_all held (with_since least lock.file lock.since) file number
    ∙ ap (λ b. b || rest) (is_since-noted least lock file number)
    ∙ or_assoc (is_since (fin.get least file) number) (same_name lock.file file && nat_le lock.since number) rest

pub is_since-least_since : (held : List HeldLock) (file : List ℕ) (number : ℕ)
    → is_since (fin.get (least_since held) file) number ≡ list_any (λ lock. same_name lock.file file && nat_le lock.since number) held
is_since-least_since held file number =
    is_since-noted_all held fin.empty file number
    ∙ ap (λ o. is_since o number || list_any (λ (l : HeldLock). same_name l.file file && nat_le l.since number) held) (fin.get-empty name_cmp file)

-- ---- write ops

Has-take_drop : {A : Type 0} (n : ℕ) (xs : List A) (x : A) → Has (take n xs) x ⊎ Has (drop n xs) x → Has xs x
Has-take_drop {A} n xs x h = subst (λ (ys : List A). Has ys x) (take-append-drop n xs) (append-Has (take n xs) (drop n xs) x h)

take_drop-Has : {A : Type 0} (n : ℕ) (xs : List A) (x : A) → Has xs x → Has (take n xs) x ⊎ Has (drop n xs) x
take_drop-Has {A} n xs x h = Has-append (take n xs) (drop n xs) x (subst (λ (ys : List A). Has ys x) (sym (take-append-drop n xs)) h)

Has-insert : {A : Type 0} (xs : List A) (n : ℕ) (x y : A) → Has (put_into xs n x) y → (x ≡ y) ⊎ Has xs y
Has-insert xs n x y h =
    elim (Has-append (take n xs) (x ∷ drop n xs) y h) [
      | inl l ↦ inr (Has-take_drop n xs y (inl l))
      | inr (inl e) ↦ inl e
      | inr (inr r) ↦ inr (Has-take_drop n xs y (inr r))
    ]

insert-Has : {A : Type 0} (xs : List A) (n : ℕ) (x y : A) → (x ≡ y) ⊎ Has xs y → Has (put_into xs n x) y
insert-Has xs n x y (inl e) = append-Has (take n xs) (x ∷ drop n xs) y (inr (inl e))
insert-Has xs n x y (inr h) =
    elim (take_drop-Has n xs y h) [
      | inl l ↦ append-Has (take n xs) (x ∷ drop n xs) y (inl l)
      | inr r ↦ append-Has (take n xs) (x ∷ drop n xs) y (inr (inr r))
    ]

pub Has-put : (ops done : List Op) (x : Op) → Has (fold put_op done ops) x → Has done x ⊎ Has ops x
Has-put [] done x h = inl h
Has-put (op ∷ ops) done x h =
    elim (Has-put ops (put_op done op) x h) [
      | inl l ↦ elim (Has-insert done (place_of op.file done) op x l) [ inl e ↦ inr (inl e) | inr k ↦ inl k ]
      | inr r ↦ inr (inr r)
    ]

pub put-Has : (ops done : List Op) (x : Op) → Has done x ⊎ Has ops x → Has (fold put_op done ops) x
put-Has [] done x (inl h) = h
put-Has [] done x (inr h) = absurd h
put-Has (op ∷ ops) done x (inl h) = put-Has ops (put_op done op) x (inl (insert-Has done (place_of op.file done) op x (inr h)))
put-Has (op ∷ ops) done x (inr (inl e)) = put-Has ops (put_op done op) x (inl (insert-Has done (place_of op.file done) op x (inl e)))
put-Has (op ∷ ops) done x (inr (inr h)) = put-Has ops (put_op done op) x (inr h)

Has-all : {A : Type 0} (p : A → Bool) (xs : List A) → ((x : A) → Has xs x → p x ≡ true) → list_all p xs ≡ true
Has-all p [] each = refl
Has-all p (x ∷ xs) each = both_true (each x (inl refl)) (Has-all p xs (λ y h. each y (inr h)))

-- the write ops are in order, as the ops are
pub in_order-writes : (ops : List Op) → are_in_order ops ≡ true → are_in_order (writes_by_file ops) ≡ true
in_order-writes ops rise = Has-all (λ (op : Op). rises (servers_of op)) (writes_by_file ops) (λ op h.
    all-Has (λ (op : Op). rises (servers_of op)) ops rise op (Has-filter is_write ops op (from_none (Has-put (filter is_write ops) [] op h))).0)
  where
    from_none : {X : Type 0} → ⊥ ⊎ X → X
    from_none (inl none) = absurd none
    from_none (inr x) = x
