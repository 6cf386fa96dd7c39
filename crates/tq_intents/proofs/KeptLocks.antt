-- Lists that others share: what stands at a place, and what is put behind the others. The locks that a list of records
-- keeps, at a file and a transaction.
use Rattle.std.proofs.Common.{◌≡◌, ◌<◌, ℕ, List, [], ◌∷◌, ◌++◌, zero, suc, length, length-append, get_or, refl, sym, ap, subst, ◌∙◌, arith, ◌==◌, Bool, true, false, cond, ◌&&◌, map, Option, Some, None}
use Rattle.std.specs.{Cmp.{nat_cmp_total, unsigned_tied}, Cmp.Lexicographic.{pointwise, texts_ties}}
use Rattle.std.specs.{List.{AllByRecursion, find, flat_map}, Option.{option_and_then, option_map}}
use Rattle.std.specs.{Ordering.{nat_cmp, is_eq, eq_by_cmp, ordering_then}, declared.cmp.Ordering.Ordering}
use Rattle.std.specs.declared.cmp.Ordering.TheVariants.{Less, Equal, Greater}
use Rattle.tq_asks.specs.declared.ask.HeldLock.{HeldLock}
use Rattle.tq_intents.specs.{declared.record.KeptLock.KeptLock, Sharing.{lock_of_vote, kept_each, lock_at}}
use Rattle.tq_intents.specs.Kept.{Votes, HasOneVoteEach, as_lock, stable_lock, lock_in, lock_of_votes, open_votes, kept_votes, kept_locks}
use Rattle.tq_intents.specs.declared.record.{OpenVote.OpenVote, Record.Record}
use Rattle.std.specs.FinMap as fin
use Rattle.tq_shape.proofs.Options.{is_eq-Equal}
use Rattle.tq_store.specs.Copies.{name_cmp}
use Rattle.tq_locks.specs.{Locks.{LockKey, lock_cmp}, declared.mode.Lock.Lock}
use Rattle.tq_locks.proofs.Found.{some_same, none_some, locks_total}

-- as many as there are locks
pub length-kept_each : (held : List HeldLock) (versions : List ℕ) → length held ≡ length versions → length (kept_each held versions) ≡ length versions
length-kept_each [] [] h = refl
length-kept_each [] (v ∷ vs) h = absurd (omega (arith, h))
length-kept_each (l ∷ ls) [] h = refl
length-kept_each (l ∷ ls) (v ∷ vs) h = ap suc (length-kept_each ls vs (omega (arith, h)))

-- a place of the locks is one of their versions
pub within-versions : (held : List HeldLock) (versions : List ℕ) (list : List KeptLock) (place : ℕ) → length held ≡ length versions → kept_each held versions ≡ list → place < length list → place < length versions
within-versions held versions list place h is lt = subst (λ n. place < n) (ap length (sym is) ∙ length-kept_each held versions h) lt

-- the lock at a place
pub get_or-kept_each : (held : List HeldLock) (versions : List ℕ) (place : ℕ) (d : KeptLock) → length held ≡ length versions → place < length versions → lock_at held place (get_or versions place 0) ≡ get_or (kept_each held versions) place d
get_or-kept_each held [] place d h lt = absurd (omega (arith, lt))
get_or-kept_each [] (v ∷ vs) place d h lt = absurd (omega (arith, h))
get_or-kept_each (l ∷ ls) (v ∷ vs) zero d h lt = refl
get_or-kept_each (l ∷ ls) (v ∷ vs) (suc place) d h lt = get_or-kept_each ls vs place d (omega (arith, h)) (omega (arith, lt))

-- one lock more
pub kept_each-push : (held : List HeldLock) (versions : List ℕ) (l : HeldLock) (v : ℕ) → length held ≡ length versions → kept_each (held ++ l ∷ []) (versions ++ v ∷ []) ≡ kept_each held versions ++ lock_of_vote l v ∷ []
kept_each-push [] [] l v h = refl
kept_each-push [] (w ∷ vs) l v h = absurd (omega (arith, h))
kept_each-push (m ∷ ls) [] l v h = absurd (omega (arith, h))
kept_each-push (m ∷ ls) (w ∷ vs) l v h = ap (λ rest. lock_of_vote m w ∷ rest) (kept_each-push ls vs l v (omega (arith, h)))

pub length-pushed : (held : List HeldLock) (versions : List ℕ) (l : HeldLock) (v : ℕ) → length held ≡ length versions → length (held ++ l ∷ []) ≡ length (versions ++ v ∷ [])
length-pushed held versions l v h = grind (arith, length-append, h)

-- ---- kept locks

abbrev Entry : Type 0
Entry = ℕ × OpenVote

abbrev Held : Type 0
Held = LockKey × Lock

abbrev key : List ℕ → ℕ → LockKey
key file txn = (file, txn)

-- the first of two look-ups that finds something
abbrev first_of_two : Option Lock → Option Lock → Option Lock
first_of_two None other = other
first_of_two (Some lock) other = Some lock

find-append : (q : LockKey) (xs ys : List Held) → fin.find lock_cmp q (xs ++ ys) ≡ first_of_two (fin.find lock_cmp q xs) (fin.find lock_cmp q ys)
find-append q [] ys = refl
find-append q (x ∷ xs) ys = elim (eq_by_cmp lock_cmp q x.0) as (λ b. cond b (Some x.1) (fin.find lock_cmp q (xs ++ ys)) ≡ first_of_two (cond b (Some x.1) (fin.find lock_cmp q xs)) (fin.find lock_cmp q ys)) [
  | true ↦ refl
  | false ↦ find-append q xs ys
]

-- keys tie where the files and the transactions do
both_tie : (a b : Ordering) → is_eq (ordering_then a b) ≡ (is_eq a && is_eq b)
both_tie Less b = refl
both_tie Equal b = refl
both_tie Greater b = refl

key_test : (file other : List ℕ) (txn t : ℕ) → eq_by_cmp lock_cmp (key file txn) (key other t) ≡ (pointwise (◌==◌) file other && txn == t)
key_test file other txn t = both_tie (name_cmp file other) (nat_cmp txn t) ∙ (λ i. sym (texts_ties file other) i && unsigned_tied txn t i)

and_true : (b : Bool) → (b && true) ≡ b
and_true true = refl
and_true false = refl

and_false : (b : Bool) → (b && false) ≡ false
and_false true = refl
and_false false = refl

-- in the locks of a vote of the transaction itself
find-own : (file : List ℕ) (txn t : ℕ) (locks : List KeptLock) → (txn == t) ≡ true → fin.find lock_cmp (key file txn) (map (stable_lock t) locks) ≡ option_map as_lock (find (λ lock. pointwise (◌==◌) file lock.file) locks)
find-own file txn t [] e = refl
find-own file txn t (lock ∷ locks) e =
    ap (λ b. cond b (Some (as_lock lock)) (fin.find lock_cmp (key file txn) (map (stable_lock t) locks)))
    (key_test file lock.file txn t ∙ ap (λ b. pointwise (◌==◌) file lock.file && b) e ∙ and_true (pointwise (◌==◌) file lock.file))
    ∙ by_test (pointwise (◌==◌) file lock.file) (find-own file txn t locks e)
  where
    by_test : (b : Bool) → fin.find lock_cmp (key file txn) (map (stable_lock t) locks) ≡ option_map as_lock (find (λ lock. pointwise (◌==◌) file lock.file) locks)
        → cond b (Some (as_lock lock)) (fin.find lock_cmp (key file txn) (map (stable_lock t) locks)) ≡ option_map as_lock (cond b (Some lock) (find (λ lock. pointwise (◌==◌) file lock.file) locks))
    by_test true h = refl
    by_test false h = h

-- in the locks of another's vote
find-other : (file : List ℕ) (txn t : ℕ) (locks : List KeptLock) → (txn == t) ≡ false → fin.find lock_cmp (key file txn) (map (stable_lock t) locks) ≡ None
find-other file txn t [] e = refl
find-other file txn t (lock ∷ locks) e =
    ap (λ b. cond b (Some (as_lock lock)) (fin.find lock_cmp (key file txn) (map (stable_lock t) locks)))
    (key_test file lock.file txn t ∙ ap (λ b. pointwise (◌==◌) file lock.file && b) e ∙ and_false (pointwise (◌==◌) file lock.file))
    ∙ find-other file txn t locks e

-- the locks of these votes
abbrev locks_in : List Entry → List Held
locks_in es = flat_map (λ vote. map (stable_lock vote.0) vote.1.locks) es

module _ (votes : Votes) (file : List ℕ) (txn : ℕ) where
  abbrev IsItsVote : Entry → Type 0
  IsItsVote e = fin.get votes e.0 ≡ Some e.1

  -- a vote of the transaction in the list is the one that the map has
  own_vote : (e : Entry) → IsItsVote e → eq_by_cmp nat_cmp txn e.0 ≡ true → fin.get votes txn ≡ Some e.1
  own_vote e h t = sym (fin.get_tied nat_cmp_total votes txn e.0 (is_eq-Equal (nat_cmp txn e.0) t)) ∙ h

  found_vote : (es : List Entry) (vote : OpenVote) → AllByRecursion IsItsVote es → fin.find nat_cmp txn es ≡ Some vote → fin.get votes txn ≡ Some vote
  found_vote [] vote h f = absurd (none_some vote f)
  found_vote (e ∷ es) vote h f = by_test (eq_by_cmp nat_cmp txn e.0) refl f (λ g. found_vote es vote h.1 g)
    where
      by_test : (b : Bool) → eq_by_cmp nat_cmp txn e.0 ≡ b → cond b (Some e.1) (fin.find nat_cmp txn es) ≡ Some vote → (fin.find nat_cmp txn es ≡ Some vote → fin.get votes txn ≡ Some vote) → fin.get votes txn ≡ Some vote
      by_test true t g next = own_vote e h.0 t ∙ g
      by_test false t g next = next g

  -- a later vote of the transaction is the same, so that it has no other lock of the file
  no_later : (es : List Entry) (vote : OpenVote) → AllByRecursion IsItsVote es → fin.get votes txn ≡ Some vote → lock_in file vote ≡ None → option_and_then (lock_in file) (fin.find nat_cmp txn es) ≡ None
  no_later es vote h v none = by_later (fin.find nat_cmp txn es) refl
    where
      by_later : (o : Option OpenVote) → fin.find nat_cmp txn es ≡ o → option_and_then (lock_in file) o ≡ None
      by_later None f = refl
      by_later (Some later) f = ap (lock_in file) (some_same later vote (sym (found_vote es later h f) ∙ v)) ∙ none

  one_vote : (e : Entry) (es : List Entry) → AllByRecursion IsItsVote es → fin.get votes txn ≡ Some e.1 → (o : Option Lock) → lock_in file e.1 ≡ o → first_of_two o (option_and_then (lock_in file) (fin.find nat_cmp txn es)) ≡ o
  one_vote e es h v None f = no_later es e.1 h v f
  one_vote e es h v (Some lock) f = refl

  find-locks_in : (es : List Entry) → AllByRecursion IsItsVote es → fin.find lock_cmp (key file txn) (locks_in es) ≡ option_and_then (lock_in file) (fin.find nat_cmp txn es)
  find-locks_in [] h = refl
  find-locks_in (e ∷ es) h =
      find-append (key file txn) (map (stable_lock e.0) e.1.locks) (locks_in es)
      ∙ ap (first_of_two (fin.find lock_cmp (key file txn) (map (stable_lock e.0) e.1.locks))) (find-locks_in es h.1)
      ∙ by_test (txn == e.0) refl
    where
      by_test : (b : Bool) → (txn == e.0) ≡ b → first_of_two (fin.find lock_cmp (key file txn) (map (stable_lock e.0) e.1.locks)) (option_and_then (lock_in file) (fin.find nat_cmp txn es)) ≡ option_and_then (lock_in file) (cond (eq_by_cmp nat_cmp txn e.0) (Some e.1) (fin.find nat_cmp txn es))
      by_test true t =
          ap (λ o. first_of_two o (option_and_then (lock_in file) (fin.find nat_cmp txn es))) (find-own file txn e.0 e.1.locks t)
          ∙ one_vote e es h.1 (own_vote e h.0 (unsigned_tied txn e.0 ∙ t)) (lock_in file e.1) refl
          ∙ ap (λ b. option_and_then (lock_in file) (cond b (Some e.1) (fin.find nat_cmp txn es))) (sym (unsigned_tied txn e.0 ∙ t))
      by_test false t =
          ap (λ o. first_of_two o (option_and_then (lock_in file) (fin.find nat_cmp txn es))) (find-other file txn e.0 e.1.locks t)
          ∙ ap (λ b. option_and_then (lock_in file) (cond b (Some e.1) (fin.find nat_cmp txn es))) (sym (unsigned_tied txn e.0 ∙ t))

-- the lock kept at a file and a transaction is that of the file in the transaction's open vote
pub get-kept_locks : (list : List Record) (file : List ℕ) (txn : ℕ) → HasOneVoteEach list → fin.get (kept_locks list) (file, txn) ≡ lock_of_votes (kept_votes list) file txn
get-kept_locks list file txn h =
    fin.get-from_entries locks_total (locks_in (open_votes list)) (key file txn)
    ∙ find-locks_in (kept_votes list) file txn (open_votes list) h
    ∙ ap (option_and_then (lock_in file)) (sym (fin.get-from_entries nat_cmp_total (open_votes list) txn))
