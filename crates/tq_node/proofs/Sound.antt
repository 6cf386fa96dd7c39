-- The numbers in a server's records aren't above that of the last ask answered. What a server's type promises stays
-- true as its copies, locks and records change; and by it the records keep the copies, the votes and their locks.
use Rattle.std.proofs.Common.{◌≡◌, ◌<◌, ◌+◌, ℕ, Bool, true, false, cond, List, [], ◌∷◌, ◌++◌, Option, Some, None, refl, ap, sym, subst, ◌∙◌, arith, ◌≤◌, map, IsSome, filter}
use mathlib.Core.Bool.{true≢false}
use Rattle.std.specs.FinMap as fin
use Rattle.std.specs.{Cmp.nat_cmp_total, List.{list_any, filter_map, cons_option, AllByRecursion}}
use Rattle.std.specs.{Option.{is_none, option_map_or}, Ordering.{nat_cmp, eq_by_cmp}}
use Rattle.std.proofs.lemmas.{Bool.false≢true, List.append-nil}
use Rattle.tq_intents.specs.Kept.{ends_vote, vote_of, opened_vote, open_votes, kept_votes, IsAbove, vote_at, AreDead, HasOneVoteEach, IsUnfinished, Votes, vote_records}
use Rattle.tq_intents.specs.declared.record.{OpenVote.OpenVote, Record.Record}
use Rattle.tq_intents.specs.declared.record.Record.TheVariants.{Copy, Intent, Keep, Prepared, Gone}
use Rattle.tq_intents.proofs.CopiesPush.{installed_all-newer, kept_copies-others, kept_copies-push_copies, kept_copies-vote, open_votes-push_copies}
use Rattle.tq_intents.proofs.DeadRecords.{dead_above, dead_copies, open_votes-dead}
use Rattle.tq_intents.proofs.Votes.{HasOneVoteEach-ended, HasOneVoteEach-given, kept_votes-ended, kept_votes-given}
pub use Rattle.tq_intents.proofs.DeadRecords.{above_append, above_copies, above_greater, above_vote}
use Rattle.tq_store.specs.{Copies.{Files, installed_all, is_newer}, declared.write.Write.Write}
use Rattle.tq_locks.specs.Locks.{Locks, locks_after_ask, blocker, held_of, locks_after_grant, locks_after_release, only_stable, locks_after_keep}
use Rattle.tq_locks.specs.declared.mode.Mode.{Mode}
use Rattle.tq_shape.specs.Journal.{state_at}
use Rattle.tq_node.specs.{Node.{IsKept, IsSound, LocksIn, NodeView}, NodeChanges.{server_at_stop, server_after_step}}
use Rattle.tq_node.specs.{declared.change.NodeStep.TheVariants.Crash, Records.kept_lock}
use Rattle.tq_node.proofs.KeptLocks.{kept_locks-is, locks-crashed, locks-decided, locks-granted, locks-none, locks-prepared, locks-released}

number_of : Option OpenVote → ℕ
number_of None = 0
number_of (Some vote) = vote.number

some_number : (a b : OpenVote) → Some a ≡ Some b → a.number ≡ b.number
unfolding number_of
some_number a b e = ap number_of e

none_some : {X : Type 0} {x : X} → None ≡ Some x → ⊥
none_some e = absurd (true≢false (ap is_none e))

found_entry : (t k s : ℕ) (v w : OpenVote) (test : Bool) (later : Option OpenVote) → (later ≡ Some v → v.number < k) → w.number < k → cond test (Some w) later ≡ Some v → v.number < k
found_entry t k s v w true later f less e = subst (λ n. n < k) (some_number w v e) less
found_entry t k s v w false later f less e = f e

found_opened : (t k s : ℕ) (v w : OpenVote) (b : Bool) (es : List (ℕ × OpenVote)) → (fin.find nat_cmp t es ≡ Some v → v.number < k) → w.number < k → fin.find nat_cmp t (cons_option (cond {A = Option (ℕ × OpenVote)} b None (Some (s, w))) es) ≡ Some v → v.number < k
found_opened t k s v w true es f less e = f e
found_opened t k s v w false es f less e = found_entry t k s v w (eq_by_cmp nat_cmp t s) (fin.find nat_cmp t es) f less e

vote_found : (whole : List Record) (t k : ℕ) (v : OpenVote) (rest : List Record) → IsAbove k rest → fin.find nat_cmp t (filter_map (opened_vote whole) rest) ≡ Some v → v.number < k
vote_found whole t k v [] h e = absurd (none_some e)
vote_found whole t k v (Copy write ∷ rest) h e = vote_found whole t k v rest h.1 e
vote_found whole t k v (Intent s m write ∷ rest) h e = vote_found whole t k v rest h.1 e
vote_found whole t k v (Keep s m lock ∷ rest) h e = vote_found whole t k v rest h.1 e
vote_found whole t k v (Gone s m ∷ rest) h e = vote_found whole t k v rest h.1 e
vote_found whole t k v (Prepared s m ∷ rest) h e = found_opened t k s v (vote_of whole s m) (list_any (ends_vote s m) whole) (filter_map (opened_vote whole) rest) (vote_found whole t k v rest h.1) h.0 e

pub vote_below : (list : List Record) (t k : ℕ) (v : OpenVote) → IsAbove k list → fin.get (kept_votes list) t ≡ Some v → v.number < k
vote_below list t k v h e = vote_found list t k v list h (sym (fin.get-from_entries nat_cmp_total (open_votes list) t) ∙ e)

at_below : (votes : Option OpenVote) (last : ℕ) → ((v : OpenVote) → votes ≡ Some v → v.number < last + 1) → (option_map_or (λ vote. vote) votes (record { number = 0; writes = []; locks = [] })).number < last + 1
at_below None last f = omega arith
at_below (Some v) last f = f v refl

pub above_ended : (list : List Record) (t last : ℕ) → IsAbove (last + 1) list → IsAbove (last + 1) (list ++ Gone t (vote_at (kept_votes list) t).number ∷ [])
above_ended list t last h = above_append (last + 1) list (Gone t (vote_at (kept_votes list) t).number ∷ []) h (at_below (fin.get (kept_votes list) t) last (λ v e. vote_below list t (last + 1) v h e), tt)

-- ---- sound

-- ---- the lists

pub open_votes-copies : (writes : List Write) (list : List Record) → open_votes (list ++ map Copy writes) ≡ open_votes list
open_votes-copies = open_votes-push_copies

vote_at-is : (votes : Votes) (t : ℕ) (vote : OpenVote) → fin.get votes t ≡ Some vote → vote_at votes t ≡ vote
vote_at-is votes t vote h = ap (λ (o : Option OpenVote). option_map_or (λ vote. vote) o (record { number = 0; writes = []; locks = [] })) h

some_is : {A : Type 0} (o : Option A) → IsSome o → (x : A) × (o ≡ Some x)
some_is None h = absurd (false≢true h)
some_is (Some x) h = (x, refl)

-- ---- the changes

module _ (list : List Record) (last : ℕ) (files : Files) (locks : Locks) (sound : IsSound list last files locks) where
  pub sound-later : (n : ℕ) → last ≤ n → IsSound list n files locks
  sound-later n e =
      record {
        numbers = above_greater (last + 1) (n + 1) list (omega (arith, e)) sound.numbers;
        one_each = sound.one_each;
        copies = sound.copies;
        locks = sound.locks;
      }

  pub sound-table : (table : Locks) → LocksIn table (kept_votes list) → IsSound list last files table
  sound-table table h = record { numbers = sound.numbers; one_each = sound.one_each; copies = sound.copies; locks = h }

  pub sound-granted : (f : List ℕ) (t : ℕ) (m : Mode) (n v : ℕ) → fin.get (kept_votes list) t ≡ None → IsSound list last files (locks_after_grant locks f t m n v)
  sound-granted f t m n v none = sound-table (locks_after_grant locks f t m n v) (locks-granted locks (kept_votes list) f t m n v none sound.locks)

  sound-unless : (by : Option ℕ) (table : Locks) → IsSound list last files table → IsSound list last files (state_at by locks table)
  sound-unless None table h = h
  sound-unless (Some by) table h = sound

  pub sound-asked : (f : List ℕ) (t : ℕ) (m : Mode) (n v : ℕ) → fin.get (kept_votes list) t ≡ None → IsSound list last files (locks_after_ask locks f t m n v)
  sound-asked f t m n v none = sound-unless (blocker locks f t m) (locks_after_grant locks f t m n v) (sound-granted f t m n v none)

  pub sound-released : (t : ℕ) → fin.get (kept_votes list) t ≡ None → IsSound list last files (locks_after_release locks t)
  sound-released t none = sound-table (locks_after_release locks t) (locks-released locks (kept_votes list) t none sound.locks)

  pub sound-crashed : IsSound list last files (only_stable locks)
  sound-crashed = sound-table (only_stable locks) (locks-crashed locks (kept_votes list) sound.locks)

  pub sound-copies : (writes : List Write) → IsSound (list ++ map Copy writes) last (installed_all files writes) locks
  sound-copies writes =
      let same = open_votes-copies writes list in
      record {
        numbers = above_append (last + 1) list (map Copy writes) sound.numbers (above_copies (last + 1) writes);
        one_each = subst (λ (es : List (ℕ × OpenVote)). AllByRecursion (λ entry. fin.get {R = nat_cmp} (fin.from_entries es) entry.0 ≡ Some entry.1) es) (sym same) sound.one_each;
        copies = kept_copies-push_copies writes list ∙ ap (λ (f : Files). installed_all f writes) sound.copies;
        locks = subst (λ (es : List (ℕ × OpenVote)). LocksIn locks (fin.from_entries es)) (sym same) sound.locks;
      }

  pub sound-newer : (writes : List Write) → IsSound (list ++ map Copy (filter (is_newer files) writes)) last (installed_all files writes) locks
  sound-newer writes =
      subst (λ (f : Files). IsSound (list ++ map Copy (filter (is_newer files) writes)) last f locks) (installed_all-newer files writes) (sound-copies (filter (is_newer files) writes))

  pub sound-prepared : (t n : ℕ) (writes : List Write) → last < n → fin.get (kept_votes list) t ≡ None → IsSound (list ++ vote_records t n writes (map kept_lock (held_of locks t))) n files (locks_after_keep locks t)
  sound-prepared t n writes rises none =
      let kept_there = map kept_lock (held_of locks t) in
      let below : IsAbove n list = above_greater (last + 1) n list (omega (arith, rises)) sound.numbers in
      record {
        numbers = above_append (n + 1) list (vote_records t n writes kept_there) (above_greater n (n + 1) list (omega arith) below) (above_vote t n writes kept_there);
        one_each = HasOneVoteEach-given list t n writes kept_there below none sound.one_each;
        copies = kept_copies-others list (vote_records t n writes kept_there) (kept_copies-vote t n writes kept_there) ∙ sound.copies;
        locks = subst (λ (votes : Votes). LocksIn (locks_after_keep locks t) votes) (sym (kept_votes-given list t n writes kept_there below none sound.one_each)) (locks-prepared locks (kept_votes list) t n writes none sound.locks);
      }

  pub sound-unfinished : (dead : List Record) (n : ℕ) → last < n → AreDead n dead → IsUnfinished list dead
  sound-unfinished dead n less d = record { number = n; newest = above_greater (last + 1) n list (omega (arith, less)) sound.numbers; dead = d }

  -- with the first records of a vote behind them that was not given to its end
  pub sound-dead : (dead : List Record) (n : ℕ) → last < n → AreDead n dead → IsSound (list ++ dead) n files locks
  sound-dead dead n less d =
      let same = open_votes-dead n list dead d (above_greater (last + 1) n list (omega (arith, less)) sound.numbers) in
      record {
        numbers = above_append (n + 1) list dead (above_greater (last + 1) (n + 1) list (omega (arith, less)) sound.numbers) (dead_above n dead d);
        one_each = subst (λ (es : List (ℕ × OpenVote)). AllByRecursion (λ entry. fin.get {R = nat_cmp} (fin.from_entries es) entry.0 ≡ Some entry.1) es) (sym same) sound.one_each;
        copies = kept_copies-others list dead (dead_copies n dead d) ∙ sound.copies;
        locks = subst (λ (es : List (ℕ × OpenVote)). LocksIn locks (fin.from_entries es)) (sym same) sound.locks;
      }

  sound-ended_vote : (t : ℕ) (vote : OpenVote) → fin.get (kept_votes list) t ≡ Some vote → IsSound (list ++ Gone t (vote_at (kept_votes list) t).number ∷ []) last files (locks_after_release locks t)
  sound-ended_vote t vote g =
      let is = vote_at-is (kept_votes list) t vote g in
      let named : list ++ Gone t vote.number ∷ [] ≡ list ++ Gone t (vote_at (kept_votes list) t).number ∷ [] = ap (λ (v : OpenVote). list ++ Gone t v.number ∷ []) (sym is) in
      record {
        numbers = above_ended list t last sound.numbers;
        one_each = subst HasOneVoteEach named (HasOneVoteEach-ended list t vote g sound.one_each);
        copies = kept_copies-others list (Gone t (vote_at (kept_votes list) t).number ∷ []) refl ∙ sound.copies;
        locks = subst (λ (votes : Votes). LocksIn (locks_after_release locks t) votes) (sym (kept_votes-ended list t vote g sound.one_each) ∙ ap kept_votes named) (locks-decided locks (kept_votes list) t sound.locks);
      }

  pub sound-ended : (t : ℕ) → IsSome (fin.get (kept_votes list) t) → IsSound (list ++ Gone t (vote_at (kept_votes list) t).number ∷ []) last files (locks_after_release locks t)
  sound-ended t some = let v = some_is (fin.get (kept_votes list) t) some in sound-ended_vote t v.0 v.1

  -- ---- what the records keep

  pub kept_is : (down : Bool) → IsKept (record { records = record { copies = files; locks = locks; votes = kept_votes list; down = down }; stable = list })
  kept_is down =
      let l = kept_locks-is list locks sound.one_each sound.locks in
      let c = sound.copies in
      λ i. record { copies = c i; locks = l i; votes = kept_votes list; down = true }

-- a crash leaves what the stable list keeps
pub left_is : (old : NodeView) (number : ℕ) → IsKept old.state → server_after_step old number Crash ≡ server_at_stop true old
left_is old number h =
    let records = sym h in
    let list = append-nil old.state.stable in
    λ i. record { levels = old.levels; server = old.server; state = record { records = records i; stable = list i }; last = old.last }

pub sound-opening : IsSound [] 0 fin.empty fin.empty
sound-opening = record { numbers = tt; one_each = tt; copies = refl; locks = locks-none }

-- the same of equal values
pub sound-as : {list more : List Record} {last : ℕ} {files found : Files} {table after : Locks} → IsSound list last files table → more ≡ list → found ≡ files → after ≡ table → IsSound more last found after
sound-as {list = list} {more = more} {last = last} {files = files} {found = found} {table = table} {after = after} h l f t =
    subst (λ (x : List Record). IsSound x last found after) (sym l)
    (subst (λ (x : Files). IsSound list last x after) (sym f)
    (subst (λ (x : Locks). IsSound list last files x) (sym t) h))

pub sound-installed : (list : List Record) (last : ℕ) (files : Files) (locks : Locks) → IsSound list last files locks → (t : ℕ) (writes : List Write) → IsSome (fin.get (kept_votes list) t)
    → IsSound ((list ++ map Copy (filter (is_newer files) writes)) ++ Gone t (vote_at (kept_votes (list ++ map Copy (filter (is_newer files) writes))) t).number ∷ []) last (installed_all files writes) (locks_after_release locks t)
sound-installed list last files locks sound t writes some =
    let newer = filter (is_newer files) writes in
    sound-ended (list ++ map Copy newer) last (installed_all files writes) locks (sound-newer list last files locks sound writes) t
    (subst (λ (es : List (ℕ × OpenVote)). IsSome (fin.get {R = Rattle.std.specs.Ordering.nat_cmp} (fin.from_entries es) t)) (sym (open_votes-copies newer list)) some)
