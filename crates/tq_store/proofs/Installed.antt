-- A map's entries, as the finite map that contracts see. What the copies are after one comes, file by file. The copies
-- where one was put in, and the one that it replaced was looked at, and put back where it is no older.
use Rattle.std.proofs.Common.{◌≡◌, ℕ, cond, List, [], ◌∷◌, Some, nat_eq, ◌<◌, ◌≤◌, arith, refl, ap, sym, subst, ◌∙◌, ◌≢◌, Bool, true, false, Option, None, nat_lt}
use Rattle.std.proofs.lemmas.{Map.lookup-set_value, Bool.Decides.nat_tests, Map.Steps.set_value_same}
use Rattle.std.specs.{Cmp.eq_by_cmp_equiv, Ordering.eq_by_cmp, Map.{lookup, set_value}, Option.IsSome}
use Rattle.std.specs.Cmp.Lexicographic.{pointwise, nat_list_cmp_total, nat_list_eq_equiv, texts_ties}
use Rattle.std.specs.FinMap.{find, get, insert, from_entries, get-from_entries, get-insert, same_map, nat_cmp-IsAntisymmetric, slice_cmp-IsAntisymmetric}
use Rattle.tq_store.specs.Copies.{name_cmp, Files, copy_of, copies_after_install, Installs, OnlyRises, copy_at, copy_in, installed_all}
use Rattle.tq_store.specs.declared.{copies.FileCopy.FileCopy, write.Write.Write}
use Rattle.std.specs.FinMap as fin
use Rattle.tq_shape.proofs.Options.{is_eq-Equal}

module _ {X : Type 0} where
  find_name : (es : List (List ℕ × X)) (q : List ℕ) → find name_cmp q es ≡ lookup (pointwise nat_eq q) es
  find_name [] q = refl
  find_name (e ∷ es) q =
      ap (λ b. cond b (Some e.1) (find name_cmp q es)) (sym (texts_ties q e.0))
      ∙ ap (cond (pointwise nat_eq q e.0) (Some e.1)) (find_name es q)

  -- what the finite map has at a name
  pub get_name : (es : List (List ℕ × X)) (q : List ℕ) → get (from_entries {R = name_cmp} es) q ≡ lookup (pointwise nat_eq q) es
  get_name es q = get-from_entries nat_list_cmp_total es q ∙ find_name es q

  -- entries that differ at one name make maps that differ there
  pub one_given : (es fs : List (List ℕ × X)) (name : List ℕ) (x : X) → ((q : List ℕ) → lookup (pointwise nat_eq q) fs ≡ cond (pointwise nat_eq name q) (Some x) (lookup (pointwise nat_eq q) es)) → from_entries {R = name_cmp} fs ≡ insert (from_entries es) name x
  one_given es fs name x h = same_map nat_list_cmp_total (slice_cmp-IsAntisymmetric nat_cmp-IsAntisymmetric) _ _ (λ q.
      get_name fs q ∙ h q
      ∙ ap (λ b. cond b (Some x) (lookup (pointwise nat_eq q) es)) (texts_ties name q ∙ (eq_by_cmp_equiv nat_list_cmp_total).symm name q)
      ∙ sym (get-insert nat_list_cmp_total (from_entries es) name x q ∙ ap (cond (eq_by_cmp name_cmp q name) (Some x)) (get_name es q)))

  -- a value that is written over that of a name makes the map in which the name has it
  pub one_written : (es : List (List ℕ × X)) (name : List ℕ) (had x : X) → lookup (pointwise nat_eq name) es ≡ Some had → from_entries {R = name_cmp} (set_value (pointwise nat_eq name) es x) ≡ insert (from_entries es) name x
  one_written es name had x found = one_given es _ name x (λ q. lookup-set_value nat_list_eq_equiv (pointwise nat_eq name) (nat_list_eq_equiv.congr name) q x es (subst IsSome (sym found) refl))

-- a greater version is put in
pub installed-greater : (files : Files) (name : List ℕ) (copy : FileCopy) → (copy_of files name).version < copy.version → insert files name copy ≡ copies_after_install files name copy
installed-greater files name copy h = grind (arith, nat_tests, h)

-- one that is no greater is not
pub installed-no_greater : (files : Files) (name : List ℕ) (copy : FileCopy) → copy.version ≤ (copy_of files name).version → files ≡ copies_after_install files name copy
installed-no_greater files name copy h = grind (arith, nat_tests, h)

-- ---- installed

-- what a file has after a copy comes
abbrev pub arrives : Option FileCopy → FileCopy → Option FileCopy
arrives had copy = cond (nat_lt (copy_at had).version copy.version) (Some copy) had

-- names that compare alike are one
pub same_name : (a b : List ℕ) → eq_by_cmp name_cmp a b ≡ true → a ≡ b
same_name a b h = slice_cmp-IsAntisymmetric nat_cmp-IsAntisymmetric a b (is_eq-Equal (name_cmp a b) h)

name_itself : (a : List ℕ) → eq_by_cmp name_cmp a a ≡ true
name_itself a = (eq_by_cmp_equiv nat_list_cmp_total).refl a

pub put_where : (files : Files) (name : List ℕ) (copy : FileCopy) (q : List ℕ) (b : Bool) → fin.get (cond b (fin.insert files name copy) files) q ≡ cond (eq_by_cmp name_cmp q name) (cond b (Some copy) (fin.get files q)) (fin.get files q)
put_where files name copy q true = fin.get-insert nat_list_cmp_total files name copy q
put_where files name copy q false = same_twice (eq_by_cmp name_cmp q name) (fin.get files q)
  where
    same_twice : (e : Bool) (o : Option FileCopy) → o ≡ cond e o o
    same_twice true o = refl
    same_twice false o = refl

-- at a name that compares alike the map has the same
pub at_name : (files : Files) (name q : List ℕ) (f : Option FileCopy → Option FileCopy) (e : Bool) → eq_by_cmp name_cmp q name ≡ e → (x : Option FileCopy) → cond e (f (fin.get files name)) x ≡ cond e (f (fin.get files q)) x
at_name files name q f true h x = ap f (fin.get_tied nat_list_cmp_total files q name (is_eq-Equal (name_cmp q name) h))
at_name files name q f false h x = refl

pub get-installed : (files : Files) (name : List ℕ) (copy : FileCopy) (q : List ℕ) → fin.get (copies_after_install files name copy) q ≡ cond (eq_by_cmp name_cmp q name) (arrives (fin.get files q) copy) (fin.get files q)
get-installed files name copy q =
    put_where files name copy q (nat_lt (copy_of files name).version copy.version)
    ∙ at_name files name q (λ had. cond (nat_lt (copy_at had).version copy.version) (Some copy) (fin.get files q)) (eq_by_cmp name_cmp q name) refl (fin.get files q)

-- ---- versions only rise

arrives_rises : (e : Bool) (had : Option FileCopy) (copy : FileCopy) → (copy_at had).version ≤ (copy_at (cond e (arrives had copy) had)).version
arrives_rises false had copy = omega arith
arrives_rises true None copy = grind (arith, nat_tests)
arrives_rises true (Some c) copy = grind (arith, nat_tests)

pub rises-installed : (files : Files) (name : List ℕ) (copy : FileCopy) → OnlyRises files (copies_after_install files name copy)
rises-installed files name copy q = subst (λ had. (copy_at (fin.get files q)).version ≤ (copy_at had).version) (sym (get-installed files name copy q)) (arrives_rises (eq_by_cmp name_cmp q name) (fin.get files q) copy)

pub rises_then : (a b c : ℕ) → a ≤ b → b ≤ c → a ≤ c
rises_then a b c h k = omega (arith, h, k)

pub rises-installed_all : (files : Files) (writes : List Write) → OnlyRises files (installed_all files writes)
rises-installed_all files [] q = omega arith
rises-installed_all files (write ∷ rest) q =
    rises_then _ _ _ (rises-installed files write.file (copy_in write) q) (rises-installed_all (copies_after_install files write.file (copy_in write)) rest q)

-- ---- the greater version stays

pub lt-true : (a b : ℕ) → a < b → nat_lt a b ≡ true
lt-true a b h = grind (arith, nat_tests)

pub lt-false : (a b : ℕ) → b ≤ a → nat_lt a b ≡ false
lt-false a b h = grind (arith, nat_tests)

arrives-newer : (had : Option FileCopy) (copy : FileCopy) → (copy_at had).version < copy.version → copy_at (arrives had copy) ≡ copy
arrives-newer had copy h = ap (λ b. copy_at (cond b (Some copy) had)) (lt-true _ _ h)

arrives-no_newer : (had : Option FileCopy) (copy : FileCopy) → copy.version ≤ (copy_at had).version → copy_at (arrives had copy) ≡ copy_at had
arrives-no_newer had copy h = ap (λ b. copy_at (cond b (Some copy) had)) (lt-false _ _ h)

copy_of-own : (files : Files) (name : List ℕ) (copy : FileCopy) → copy_of (copies_after_install files name copy) name ≡ copy_at (arrives (fin.get files name) copy)
copy_of-own files name copy = ap copy_at (get-installed files name copy name ∙ ap (λ b. cond b (arrives (fin.get files name) copy) (fin.get files name)) (name_itself name))

copy_of-other : (files : Files) (name : List ℕ) (copy : FileCopy) (other : List ℕ) (b : Bool) → eq_by_cmp name_cmp other name ≡ b → other ≢ name → copy_of (copies_after_install files name copy) other ≡ copy_of files other
copy_of-other files name copy other true e h = absurd (h (same_name other name e))
copy_of-other files name copy other false e h = ap copy_at (get-installed files name copy other ∙ ap (λ b. cond b (arrives (fin.get files other) copy) (fin.get files other)) e)

pub Installs-installed : (files : Files) (name : List ℕ) (copy : FileCopy) → Installs files (copies_after_install files name copy) name copy
Installs-installed files name copy = record {
  newer = λ h. copy_of-own files name copy ∙ arrives-newer (fin.get files name) copy h;
  no_newer = λ h. copy_of-own files name copy ∙ arrives-no_newer (fin.get files name) copy h;
  others = λ other h. copy_of-other files name copy other (eq_by_cmp name_cmp other name) refl h;
}

-- ---- replaced

twice : {X : Type 0} (b : Bool) (x y z : X) → cond b x (cond b y z) ≡ cond b x z
twice true x y z = refl
twice false x y z = refl

-- what a file had before, in the entries that the map was made of
module _ (es : List (List ℕ × FileCopy)) (name : List ℕ) (copy : FileCopy) (had : Option FileCopy) (found : lookup (pointwise nat_eq name) es ≡ had) where
  copy-had : copy_of (from_entries es) name ≡ copy_at had
  copy-had = ap copy_at (get_name es name ∙ found)

  pub is-newer : (copy_at had).version < copy.version → true ≡ nat_lt (copy_of (from_entries es) name).version copy.version
  is-newer less = sym (lt-true _ _ (subst (λ (h : FileCopy). h.version < copy.version) (sym copy-had) less))

  pub is-no_newer : copy.version ≤ (copy_at had).version → false ≡ nat_lt (copy_of (from_entries es) name).version copy.version
  is-no_newer less = sym (lt-false _ _ (subst (λ (h : FileCopy). copy.version ≤ h.version) (sym copy-had) less))

  pub put-in : (fs : List (List ℕ × FileCopy)) → ((q : List ℕ) → lookup (pointwise nat_eq q) fs ≡ cond (pointwise nat_eq name q) (Some copy) (lookup (pointwise nat_eq q) es))
      → (copy_at had).version < copy.version → from_entries fs ≡ copies_after_install (from_entries es) name copy
  put-in fs put less =
      one_given es fs name copy put
      ∙ installed-greater (from_entries es) name copy (subst (λ (h : FileCopy). h.version < copy.version) (sym copy-had) less)

-- the one that was there is put back
pub put-back : (es fs : List (List ℕ × FileCopy)) (name : List ℕ) (copy before : FileCopy) → lookup (pointwise nat_eq name) es ≡ Some before
    → ((q : List ℕ) → lookup (pointwise nat_eq q) fs ≡ cond (pointwise nat_eq name q) (Some copy) (lookup (pointwise nat_eq q) es))
    → lookup (pointwise nat_eq name) fs ≡ Some copy → copy.version ≤ before.version
    → from_entries (set_value (pointwise nat_eq name) fs before) ≡ copies_after_install (from_entries es) name copy
put-back es fs name copy before found put stands less =
    let again : from_entries (set_value (pointwise nat_eq name) fs before) ≡ insert (from_entries es) name before =
    one_given es (set_value (pointwise nat_eq name) fs before) name before (λ q.
    lookup-set_value nat_list_eq_equiv (pointwise nat_eq name) (nat_list_eq_equiv.congr name) q before fs (subst IsSome (sym stands) refl)
    ∙ ap (cond (pointwise nat_eq name q) (Some before)) (put q)
    ∙ twice (pointwise nat_eq name q) (Some before) (Some copy) (lookup (pointwise nat_eq q) es)) in
    let same : insert (from_entries es) name before ≡ from_entries es =
    sym (one_written es name before before found) ∙ ap (λ entries. from_entries entries) (set_value_same (pointwise nat_eq name) es before found) in
    again ∙ same ∙ installed-no_greater (from_entries es) name copy (subst (λ (h : FileCopy). copy.version ≤ h.version) (sym (copy-had es name copy (Some before) found)) less)
