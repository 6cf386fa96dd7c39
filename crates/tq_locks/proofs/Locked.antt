-- What the table has at a file and a transaction after each change, and that no two of its locks are in conflict.
use Rattle.std.proofs.Common.{◌≡◌, ◌≢◌, ◌≤◌, ◌<◌, ◌==◌, ◌&&◌, ℕ, Bool, true, false, cond, not, List, [], ◌∷◌, map, Option, Some, None, refl, ap, sym, ◌∙◌, ◌⊎◌, inl, inr, arith, nat_eq, IfSome, filter}
use Rattle.std.proofs.lemmas.{Bool.Decides.nat_tests, Cmp.{ranked, tied_itself}}
use lib.Dec.{T}
use mathlib.Core.Bool.{true≢false}
use Rattle.std.specs.Cmp.Lexicographic.{pointwise, same_text, nat_list_cmp_total, nat_list_eq_equiv}
use Rattle.std.specs.{FinMap.Entries.{below_all, is_sorted-where_key}, Option.{option_map, option_map_or}}
use Rattle.std.specs.{Ordering.{nat_cmp, is_lt, eq_by_cmp, ordering_then}, declared.cmp.Ordering.Ordering}
use Rattle.std.specs.declared.cmp.Ordering.TheVariants.{Less}
use Rattle.std.specs.FinMap as fin
use Rattle.std.specs.List as lists
use Rattle.tq_locks.specs.{Kept.first_blocker, declared.mode.{Mode.{Mode, TheVariants.{Shared, Exclusive}}, Lock.Lock}}
use Rattle.tq_locks.specs.Locks.{LockKey, Locks, lock_cmp, conflicts, stronger, blocks, Blocks, IsFree, IsLeastBlocker, blocker, lock_after, locks_after_grant, locks_after_release, only_stable, entry_after_keep, locks_after_keep, HasNoConflict}
use Rattle.tq_locks.proofs.Found.{first, second, below_each, some_same, none_some, none_passes, first_passes, entry_of, get-entry_of, locks_total, locks_same}
use Rattle.tq_shape.{proofs.{Places.find-Has, Options.is_eq-Equal}, specs.Journal.Has}

abbrev key : List ℕ → ℕ → LockKey
key file txn = (file, txn)

-- keys that compare alike are one
pub same_key : (a b : LockKey) → eq_by_cmp lock_cmp a b ≡ true → a ≡ b
same_key a b h = locks_same a b (is_eq-Equal (lock_cmp a b) h)

-- ---- what the table has after each change

pub get-granted : (locks : Locks) (file : List ℕ) (txn : ℕ) (mode : Mode) (number version : ℕ) (q : LockKey) → fin.get (locks_after_grant locks file txn mode number version) q ≡ cond (eq_by_cmp lock_cmp q (file, txn)) (Some (lock_after (fin.get locks (file, txn)) mode number version)) (fin.get locks q)
get-granted locks file txn mode number version q = fin.get-insert locks_total locks (file, txn) (lock_after (fin.get locks (file, txn)) mode number version) q

pub get-released : (locks : Locks) (txn : ℕ) (q : LockKey) → fin.get (locks_after_release locks txn) q ≡ cond (not (q.1 == txn)) (fin.get locks q) None
get-released locks txn q = fin.get-retain_keys locks (λ key. not (key.1 == txn)) q (λ k t. ap (λ (key : LockKey). not (key.1 == txn)) (sym (locks_same q k t)))

pub get-only_stable : (locks : Locks) (q : LockKey) → fin.get (only_stable locks) q ≡ cond (option_map_or (λ lock. lock.stable) (fin.get locks q) false) (fin.get locks q) None
get-only_stable locks q = fin.get-retain_keys locks (λ key. option_map_or (λ lock. lock.stable) (fin.get locks key) false) q (λ k t. ap (λ (key : LockKey). option_map_or (λ lock. lock.stable) (fin.get locks key) false) (sym (locks_same q k t)))

kept_step : (txn : ℕ) (q : LockKey) (e : LockKey × Lock) (rest : List (LockKey × Lock)) (b : Bool) → eq_by_cmp lock_cmp q e.0 ≡ b
    → fin.find lock_cmp q (map (entry_after_keep txn) rest) ≡ option_map (λ lock. (entry_after_keep txn (q, lock)).1) (fin.find lock_cmp q rest)
    → cond b (Some (entry_after_keep txn e).1) (fin.find lock_cmp q (map (entry_after_keep txn) rest)) ≡ option_map (λ lock. (entry_after_keep txn (q, lock)).1) (cond b (Some e.1) (fin.find lock_cmp q rest))
kept_step txn q e rest true t next = ap (λ (key : LockKey). Some (entry_after_keep txn (key, e.1)).1) (sym (same_key q e.0 t))
kept_step txn q e rest false t next = next

find-stabilised : (txn : ℕ) (q : LockKey) (es : List (LockKey × Lock)) → fin.find lock_cmp q (map (entry_after_keep txn) es) ≡ option_map (λ lock. (entry_after_keep txn (q, lock)).1) (fin.find lock_cmp q es)
find-stabilised txn q [] = refl
find-stabilised txn q (e ∷ es) = kept_step txn q e es (eq_by_cmp lock_cmp q e.0) refl (find-stabilised txn q es)

pub get-kept : (locks : Locks) (txn : ℕ) (q : LockKey) → fin.get (locks_after_keep locks txn) q ≡ option_map (λ lock. (entry_after_keep txn (q, lock)).1) (fin.get locks q)
get-kept locks txn q =
    fin.get-from_entries locks_total (map (entry_after_keep txn) (fin.entries locks)) q
    ∙ find-stabilised txn q (fin.entries locks)
    ∙ ap (option_map (λ lock. (entry_after_keep txn (q, lock)).1)) (sym (fin.get-entries locks q))

-- ---- what blocks a request

parts : (a b c : Bool) → (a && not b && c) ≡ true → (a ≡ true) × (b ≡ false) × (c ≡ true)
parts true false true h = (refl, refl, refl)
parts true false false h = absurd (true≢false (sym h))
parts true true c h = absurd (true≢false (sym h))
parts false b c h = absurd (true≢false (sym h))

unlike : (s t : ℕ) → (t == s) ≡ false → s ≢ t
unlike s t h = grind (arith, nat_tests, h)

other_than : (s t : ℕ) → s ≢ t → (t == s) ≡ false
other_than s t h = grind (arith, nat_tests, h)

-- an entry that passes the test blocks
Blocks-entry : (locks : Locks) (file : List ℕ) (txn : ℕ) (mode : Mode) (e : LockKey × Lock) → Has (fin.entries locks) e → blocks file txn mode e ≡ true → Blocks locks file txn mode e.0.1 × (file ≡ e.0.0)
Blocks-entry locks file txn mode e h t =
    let p = parts (pointwise nat_eq file e.0.0) (txn == e.0.1) (conflicts mode e.1.mode) t in
    let name : file ≡ e.0.0 = same_text file e.0.0 (sym p.0) in (
      record {
        other = unlike e.0.1 txn p.1;
        lock = e.1;
        is_there = ap (λ (f : List ℕ). fin.get locks (f, e.0.1)) name ∙ get-entry_of locks_total locks_same locks e h;
        conflict = p.2;
      },
      name,
    )

-- what blocks passes the test
passes : (locks : Locks) (file : List ℕ) (txn : ℕ) (mode : Mode) (by : ℕ) (b : Blocks locks file txn mode by) → blocks file txn mode ((file, by), b.lock) ≡ true
passes locks file txn mode by b = λ i. nat_list_eq_equiv.refl file i && not (other_than by txn b.other i) && b.conflict i

at_least : (by other : ℕ) (r : Ordering) → nat_cmp by other ≡ r → r ≡ Less → by ≤ other
at_least by other r c h = told by other Less (ranked by other Less (sym (c ∙ h)))
  where
    told : (a b : ℕ) (s : Ordering) → a < b → a ≤ b
    told a b s l = omega (arith, l)

then_le : (by other : ℕ) (file : List ℕ) → lock_cmp (file, by) (file, other) ≡ Less → by ≤ other
then_le by other file h = at_least by other (nat_cmp by other) refl (ap (λ r. ordering_then r (nat_cmp by other)) (sym (tied_itself nat_list_cmp_total file)) ∙ h)

pub IsLeastBlocker-blocker : (locks : Locks) (file : List ℕ) (txn : ℕ) (mode : Mode) (e : LockKey × Lock) → lists.find (blocks file txn mode) (fin.entries locks) ≡ Some e → IsLeastBlocker locks file txn mode e.0.1
IsLeastBlocker-blocker locks file txn mode e f =
    let at = find-Has (blocks file txn mode) (fin.entries locks) e f in
    let b = Blocks-entry locks file txn mode e at.0 at.1 in
    record {
      blocks = b.0;
      least = λ other c. by_place other c.lock
          (first_passes locks_total locks_same (blocks file txn mode) (fin.entries locks) e ((file, other), c.lock) (fin.entries_sorted locks) f
          (entry_of locks_total locks_same locks (file, other) c.lock c.is_there) (passes locks file txn mode other c)) b.1;
    }
  where
    by_place : (other : ℕ) (l : Lock) → (e ≡ ((file, other), l)) ⊎ (lock_cmp e.0 (file, other) ≡ Less) → file ≡ e.0.0 → e.0.1 ≤ other
    by_place other l (inl s) name = same_le (ap (λ (x : LockKey × Lock). x.0.1) s)
      where
        same_le : e.0.1 ≡ other → e.0.1 ≤ other
        same_le s = omega (arith, s)
    by_place other l (inr h) name = then_le e.0.1 other file (ap (λ (f : List ℕ). lock_cmp (f, e.0.1) (file, other)) name ∙ h)

pub IsFree-blocker : (locks : Locks) (file : List ℕ) (txn : ℕ) (mode : Mode) → lists.find (blocks file txn mode) (fin.entries locks) ≡ None → IsFree locks file txn mode
IsFree-blocker locks file txn mode f by b =
    absurd (true≢false (sym (passes locks file txn mode by b) ∙ none_passes (blocks file txn mode) (fin.entries locks) ((file, by), b.lock) f (entry_of locks_total locks_same locks (file, by) b.lock b.is_there)))

-- the same, by what `blocker` says
pub least_blocker : (locks : Locks) (file : List ℕ) (txn : ℕ) (mode : Mode) → IfSome (blocker locks file txn mode) (IsLeastBlocker locks file txn mode)
least_blocker locks file txn mode = by_found (lists.find (blocks file txn mode) (fin.entries locks)) (λ e f. IsLeastBlocker-blocker locks file txn mode e f) refl
  where
    by_found : (o : Option (LockKey × Lock)) → ((e : LockKey × Lock) → lists.find (blocks file txn mode) (fin.entries locks) ≡ Some e → IsLeastBlocker locks file txn mode e.0.1) → lists.find (blocks file txn mode) (fin.entries locks) ≡ o → IfSome (option_map (λ entry. entry.0.1) o) (IsLeastBlocker locks file txn mode)
    by_found None g f = tt
    by_found (Some e) g f = g e f

pub no_blocker : (locks : Locks) (file : List ℕ) (txn : ℕ) (mode : Mode) → blocker locks file txn mode ≡ None → IsFree locks file txn mode
no_blocker locks file txn mode h = IsFree-blocker locks file txn mode (nothing (lists.find (blocks file txn mode) (fin.entries locks)) h)
  where
    nothing : (o : Option (LockKey × Lock)) → option_map (λ entry. entry.0.1) o ≡ None → o ≡ None
    nothing None h = refl
    nothing (Some e) h = absurd (none_some e.0.1 (sym h))

-- ---- no two locks are in conflict

conflicts-swapped : (a b : Mode) → conflicts a b ≡ conflicts b a
conflicts-swapped Shared Shared = refl
conflicts-swapped Shared Exclusive = refl
conflicts-swapped Exclusive Shared = refl
conflicts-swapped Exclusive Exclusive = refl

stronger_agrees : (had mode other : Mode) → conflicts had other ≡ false → conflicts mode other ≡ false → conflicts (stronger had mode) other ≡ false
stronger_agrees Shared mode other h k = k
stronger_agrees Exclusive mode other h k = h

-- the table has a lock of this mode there
abbrev pub HasMode : Locks → LockKey → Mode → Type 0
HasMode locks q mode = (lock : Lock) × (fin.get locks q ≡ Some lock) × (lock.mode ≡ mode)

-- a table whose locks were there before, of the same modes
pub HasNoConflict-fewer : (old new : Locks) → ((q : LockKey) (a : Lock) → fin.get new q ≡ Some a → HasMode old q a.mode) → HasNoConflict old → HasNoConflict new
HasNoConflict-fewer old new from h file s t a b other f g =
    let x = from (file, s) a f in
    let y = from (file, t) b g in
    (λ i. conflicts (sym x.2 i) (sym y.2 i)) ∙ h file s t x.0 y.0 other x.1 y.1

left_over : (b : Bool) (o : Option Lock) (a : Lock) → cond b o None ≡ Some a → o ≡ Some a
left_over true o a h = h
left_over false o a h = absurd (none_some a h)

pub HasNoConflict-released : (locks : Locks) (txn : ℕ) → HasNoConflict locks → HasNoConflict (locks_after_release locks txn)
HasNoConflict-released locks txn = HasNoConflict-fewer locks (locks_after_release locks txn) (λ q a f. (a, left_over (not (q.1 == txn)) (fin.get locks q) a (sym (get-released locks txn q) ∙ f), refl))

pub HasNoConflict-only_stable : (locks : Locks) → HasNoConflict locks → HasNoConflict (only_stable locks)
HasNoConflict-only_stable locks = HasNoConflict-fewer locks (only_stable locks) (λ q a f. (a, left_over (option_map_or (λ lock. lock.stable) (fin.get locks q) false) (fin.get locks q) a (sym (get-only_stable locks q) ∙ f), refl))

marked : (txn : ℕ) (q : LockKey) (o : Option Lock) (a : Lock) → option_map (λ lock. (entry_after_keep txn (q, lock)).1) o ≡ Some a → (lock : Lock) × (o ≡ Some lock) × (lock.mode ≡ a.mode)
marked txn q None a h = absurd (none_some a h)
marked txn q (Some lock) a h = (lock, refl, ap (λ (l : Lock). l.mode) (some_same (entry_after_keep txn (q, lock)).1 a h))

pub HasNoConflict-kept : (locks : Locks) (txn : ℕ) → HasNoConflict locks → HasNoConflict (locks_after_keep locks txn)
HasNoConflict-kept locks txn = HasNoConflict-fewer locks (locks_after_keep locks txn) (λ q a f. marked txn q (fin.get locks q) a (sym (get-kept locks txn q) ∙ f))

module _ (locks : Locks) (file : List ℕ) (txn : ℕ) (mode : Mode) (number version : ℕ) (free : IsFree locks file txn mode) (h : HasNoConflict locks) where
  agrees : (by : ℕ) (b : Lock) → by ≢ txn → fin.get locks (file, by) ≡ Some b → conflicts mode b.mode ≡ false
  agrees by b other f = by_test (conflicts mode b.mode) refl
    where
      by_test : (c : Bool) → conflicts mode b.mode ≡ c → c ≡ false
      by_test true e = absurd (free by (record { other = other; lock = b; is_there = f; conflict = e }))
      by_test false e = refl

  new_agrees : (had : Option Lock) (by : ℕ) (b : Lock) → fin.get locks (file, txn) ≡ had → by ≢ txn → fin.get locks (file, by) ≡ Some b → conflicts (lock_after had mode number version).mode b.mode ≡ false
  new_agrees None by b e other f = agrees by b other f
  new_agrees (Some had) by b e other f = stronger_agrees had.mode mode b.mode (h file txn by had b (λ s. other (sym s)) e f) (agrees by b other f)

  -- a key of the table after the grant: the one that was granted, or one that was there
  abbrev IsAt : LockKey → Lock → Type 0
  IsAt q a = ((q ≡ key file txn) × (lock_after (fin.get locks (file, txn)) mode number version ≡ a)) ⊎ (fin.get locks q ≡ Some a)

  at : (q : LockKey) (a : Lock) → fin.get (locks_after_grant locks file txn mode number version) q ≡ Some a → IsAt q a
  at q a f = by_test (eq_by_cmp lock_cmp q (file, txn)) refl (sym (get-granted locks file txn mode number version q) ∙ f)
    where
      by_test : (b : Bool) → eq_by_cmp lock_cmp q (file, txn) ≡ b → cond b (Some (lock_after (fin.get locks (file, txn)) mode number version)) (fin.get locks q) ≡ Some a → IsAt q a
      by_test true e g = inl (same_key q (file, txn) e, some_same (lock_after (fin.get locks (file, txn)) mode number version) a g)
      by_test false e g = inr g

  one_new : (f : List ℕ) (s t : ℕ) (a b : Lock) → s ≢ t → key f s ≡ key file txn → lock_after (fin.get locks (file, txn)) mode number version ≡ a → fin.get locks (f, t) ≡ Some b → conflicts a.mode b.mode ≡ false
  one_new f s t a b other e is_new g =
      ap (λ (l : Lock). conflicts l.mode b.mode) (sym is_new)
      ∙ new_agrees (fin.get locks (file, txn)) t b refl (λ d. other (ap (λ (k : LockKey). k.1) e ∙ sym d)) (ap (λ (k : LockKey). fin.get locks (k.0, t)) (sym e) ∙ g)

  both_at : (f : List ℕ) (s t : ℕ) (a b : Lock) → s ≢ t → IsAt (f, s) a → IsAt (f, t) b → conflicts a.mode b.mode ≡ false
  both_at f s t a b other (inl x) (inl y) = absurd (other (ap (λ (k : LockKey). k.1) (x.0 ∙ sym y.0)))
  both_at f s t a b other (inl x) (inr y) = one_new f s t a b other x.0 x.1 y
  both_at f s t a b other (inr x) (inl y) = conflicts-swapped a.mode b.mode ∙ one_new f t s b a (λ e. other (sym e)) y.0 y.1 x
  both_at f s t a b other (inr x) (inr y) = h f s t a b other x y

  pub HasNoConflict-granted : HasNoConflict (locks_after_grant locks file txn mode number version)
  HasNoConflict-granted f s t a b other x y = both_at f s t a b other (at (f, s) a x) (at (f, t) b y)

pub HasNoConflict-empty : HasNoConflict fin.empty
HasNoConflict-empty file s t a b other f g = absurd (none_some a (sym (fin.get-empty lock_cmp (key file s)) ∙ f))

-- a lock that doesn't conflict with a mode is shared, and so is the mode
both_shared : (m a b : Mode) → conflicts m a ≡ false → conflicts a b ≡ false → conflicts m b ≡ false
both_shared Shared Shared Shared e f = refl
both_shared Shared Shared Exclusive e f = f
both_shared Shared Exclusive b e f = absurd (true≢false e)
both_shared Exclusive a b e f = absurd (true≢false e)

abbrev first_of : Option (LockKey × Lock) → Option ℕ
first_of o = option_map (λ entry. entry.0.1) o

-- where each later lock is shared, none blocks
none_blocks : (file : List ℕ) (txn : ℕ) (mode : Mode) (es : List (LockKey × Lock)) → ((e : LockKey × Lock) → Has es e → (txn == e.0.1) ≡ false → conflicts mode e.1.mode ≡ false) → lists.find (blocks file txn mode) es ≡ None
none_blocks file txn mode [] told = refl
none_blocks file txn mode (e ∷ es) told = ap (λ b. cond b (Some e) (lists.find (blocks file txn mode) es)) passed ∙ none_blocks file txn mode es (λ x h. told x (inr h))
  where
    and_none : (a b c : Bool) → (b ≡ false → c ≡ false) → (a && not b && c) ≡ false
    and_none true true c h = refl
    and_none true false c h = h refl
    and_none false b c h = refl

    passed : blocks file txn mode e ≡ false
    passed = and_none (pointwise nat_eq file e.0.0) (txn == e.0.1) (conflicts mode e.1.mode) (told e (inl refl))

turned_number : (s t : ℕ) → (s == t) ≡ (t == s)
turned_number s t = by_tests (s == t) (t == s) refl refl
  where
    by_tests : (b c : Bool) → (s == t) ≡ b → (t == s) ≡ c → b ≡ c
    by_tests true true e f = refl
    by_tests false false e f = refl
    by_tests true false e f = absurd (grind (arith, nat_tests))
    by_tests false true e f = absurd (grind (arith, nat_tests))

decided_step : (file : List ℕ) (txn : ℕ) (mode : Mode) (e : LockKey × Lock) (es : List (LockKey × Lock)) → pointwise nat_eq file e.0.0 ≡ true → ((x : LockKey × Lock) → Has es x → conflicts e.1.mode x.1.mode ≡ false)
    → first_blocker txn mode es ≡ first_of (lists.find (blocks file txn mode) es) → first_blocker txn mode (e ∷ es) ≡ first_of (lists.find (blocks file txn mode) (e ∷ es))
decided_step file txn mode e es on agree next =
    by_tests (e.0.1 == txn) (conflicts mode e.1.mode) refl refl
    ∙ ap (λ b. first_of (cond b (Some e) (lists.find (blocks file txn mode) es))) (λ i. sym on i && not (turned_number e.0.1 txn i) && conflicts mode e.1.mode)
  where
    by_tests : (b c : Bool) → (e.0.1 == txn) ≡ b → conflicts mode e.1.mode ≡ c → cond b (first_blocker txn mode es) (cond c (Some e.0.1) None) ≡ first_of (cond (true && not b && c) (Some e) (lists.find (blocks file txn mode) es))
    by_tests true c s t = next
    by_tests false true s t = refl
    by_tests false false s t = sym (ap first_of (none_blocks file txn mode es (λ x h n. both_shared mode e.1.mode x.1.mode t (agree x h))))

-- locks on a file, no two in conflict
abbrev pub AllAgree : List (LockKey × Lock) → Type 0
AllAgree [] = Unit {0}
AllAgree (e ∷ es) = ((x : LockKey × Lock) → Has es x → conflicts e.1.mode x.1.mode ≡ false) × AllAgree es

decided-blocks : (file : List ℕ) (txn : ℕ) (mode : Mode) (es : List (LockKey × Lock)) → ((e : LockKey × Lock) → Has es e → pointwise nat_eq file e.0.0 ≡ true) → AllAgree es → first_blocker txn mode es ≡ first_of (lists.find (blocks file txn mode) es)
decided-blocks file txn mode [] on agree = refl
decided-blocks file txn mode (e ∷ es) on agree = decided_step file txn mode e es (on e (inl refl)) agree.0 (decided-blocks file txn mode es (λ x h. on x (inr h)) agree.1)

-- a search may leave out what its test leaves out
find-filtered : (file : List ℕ) (txn : ℕ) (mode : Mode) (es : List (LockKey × Lock)) → lists.find (blocks file txn mode) (filter (λ e. pointwise nat_eq file e.0.0) es) ≡ lists.find (blocks file txn mode) es
find-filtered file txn mode [] = refl
find-filtered file txn mode (e ∷ es) = by_test (pointwise nat_eq file e.0.0) refl (find-filtered file txn mode es)
  where
    by_test : (b : Bool) → pointwise nat_eq file e.0.0 ≡ b → lists.find (blocks file txn mode) (filter (λ e. pointwise nat_eq file e.0.0) es) ≡ lists.find (blocks file txn mode) es
        → lists.find (blocks file txn mode) (cond b (e ∷ filter (λ e. pointwise nat_eq file e.0.0) es) (filter (λ e. pointwise nat_eq file e.0.0) es)) ≡ lists.find (blocks file txn mode) (e ∷ es)
    by_test true h next = ap (cond (blocks file txn mode e) (Some e)) next
    by_test false h next = next ∙ ap (λ b. cond (b && not (txn == e.0.1) && conflicts mode e.1.mode) (Some e) (lists.find (blocks file txn mode) es)) (sym h)

Has-kept : (p : LockKey × Lock → Bool) (es : List (LockKey × Lock)) (x : LockKey × Lock) → Has (filter p es) x → Has es x × (p x ≡ true)
Has-kept p [] x h = absurd h
Has-kept p (e ∷ es) x h = by_test (p e) refl h (Has-kept p es x)
  where
    by_test : (b : Bool) → p e ≡ b → Has (cond b (e ∷ filter p es) (filter p es)) x → (Has (filter p es) x → Has es x × (p x ≡ true)) → Has (e ∷ es) x × (p x ≡ true)
    by_test true t (inl s) next = (inl s, ap p (sym s) ∙ t)
    by_test true t (inr g) next = let r = next g in (inr r.0, r.1)
    by_test false t g next = let r = next g in (inr r.0, r.1)

-- of locks that rise, those on a file are in no conflict
agree_all : (locks : Locks) (file : List ℕ) → HasNoConflict locks → (es : List (LockKey × Lock)) → T (fin.is_sorted lock_cmp es) → ((e : LockKey × Lock) → Has es e → Has (fin.entries locks) e × (pointwise nat_eq file e.0.0 ≡ true)) → AllAgree es
agree_all locks file h [] t from = tt
agree_all locks file h (e ∷ es) t from = (
  λ x g. two x g (from e (inl refl)) (from x (inr g)),
  agree_all locks file h es (second (below_all lock_cmp e.0 es) (fin.is_sorted lock_cmp es) t) (λ x g. from x (inr g)),
)
  where
    two : (x : LockKey × Lock) → Has es x → Has (fin.entries locks) e × (pointwise nat_eq file e.0.0 ≡ true) → Has (fin.entries locks) x × (pointwise nat_eq file x.0.0 ≡ true) → conflicts e.1.mode x.1.mode ≡ false
    two x g a b =
        let below = below_each locks_total locks_same e.0 es x (first (below_all lock_cmp e.0 es) (fin.is_sorted lock_cmp es) t) g in
        let one : file ≡ e.0.0 = same_text file e.0.0 (sym a.1) in
        let other : file ≡ x.0.0 = same_text file x.0.0 (sym b.1) in
        h file e.0.1 x.0.1 e.1 x.1
        (λ s. true≢false (ap is_lt (sym below ∙ (λ i. lock_cmp e.0 ((sym other ∙ one) i, sym s i)) ∙ tied_itself locks_total e.0)))
        (ap (λ f. fin.get locks (f, e.0.1)) one ∙ get-entry_of locks_total locks_same locks e a.0)
        (ap (λ f. fin.get locks (f, x.0.1)) other ∙ get-entry_of locks_total locks_same locks x b.0)

-- the first lock of another transaction on the file decides
pub decided-blocker : (locks : Locks) (file : List ℕ) (txn : ℕ) (mode : Mode) → HasNoConflict locks → first_blocker txn mode (filter (λ e. pointwise nat_eq file e.0.0) (fin.entries locks)) ≡ blocker locks file txn mode
decided-blocker locks file txn mode h =
    let es = filter (λ (e : LockKey × Lock). pointwise nat_eq file e.0.0) (fin.entries locks) in
    let from = Has-kept (λ e. pointwise nat_eq file e.0.0) (fin.entries locks) in
    decided-blocks file txn mode es (λ e g. (from e g).1) (agree_all locks file h es (is_sorted-where_key lock_cmp (λ k. pointwise nat_eq file k.0) (fin.entries locks) (fin.entries_sorted locks)) from)
    ∙ ap first_of (find-filtered file txn mode (fin.entries locks))
