-- The stable locks of a table are the locks of the open votes, after each change of either; and so the records keep them.
use Rattle.std.specs.{Prelude.{◌==◌, not, ◌||◌}, Cmp.{nat_cmp_total, IsTotalOrder}, List.{AllByRecursion, flat_map}}
use Rattle.std.specs.{FinMap.{FinMap, IsAntisymmetric, find, nat_cmp-IsAntisymmetric}, Ordering.eq_by_cmp}
use Rattle.std.{specs.{Option.{option_map, option_map_or}, declared.cmp.Ordering.Ordering}, proofs.Math.Bool.or-false}
use Rattle.std.proofs.Common.{◌≡◌, ◌≢◌, ℕ, Bool, true, false, List, [], ◌∷◌, ◌++◌, map, Option, Some, None, refl, sym, ap, subst, ◌∙◌, ◌⊎◌, inl, inr}
use Rattle.std.proofs.lemmas.Bool.{cases_Bool, cond-true, cond-false, false≢true, eqb-true, ne_eqb, eq-eqb, cases_eq}
use Rattle.std.specs.FinMap as fin
use Rattle.tq_shape.{specs.Journal.Has, proofs.Places.{Some-same, Has-map, map-Has, Has-append, Has-filter, filter-Has}}
use Rattle.tq_store.specs.declared.write.Write.{Write}
use Rattle.tq_locks.specs.Locks.{Locks, LockKey, lock_after, held_of, locks_after_grant, locks_after_release, only_stable, entry_after_keep, locks_after_keep}
use Rattle.tq_locks.specs.declared.mode.{Lock.Lock, Mode.Mode}
use Rattle.tq_locks.proofs.{Found.{locks_total, locks_same, entry_of, get-entry_of, Has-looked_up}, Locked.get-kept}
use Rattle.tq_intents.specs.Kept.{HasOneVoteEach, Votes, kept_locks, kept_votes, open_votes, stable_lock}
use Rattle.tq_intents.specs.declared.record.{KeptLock.KeptLock, OpenVote.OpenVote, Record.Record}
use Rattle.tq_node.specs.{Node.LocksIn, Records.kept_lock}
use Rattle.tq_node.proofs.Installed.{key_cases, insert-same, insert-other, insert-cases, remove-other, remove-cases, retain-in, retain-from}

-- ---- lists

pub Has-left : {A : Type 0} (xs ys : List A) (x : A) → Has xs x → Has (xs ++ ys) x
Has-left [] ys x h = absurd h
Has-left (z ∷ xs) ys x (inl e) = inl e
Has-left (z ∷ xs) ys x (inr h) = inr (Has-left xs ys x h)

pub Has-right : {A : Type 0} (xs ys : List A) (x : A) → Has ys x → Has (xs ++ ys) x
Has-right [] ys x h = h
Has-right (z ∷ xs) ys x h = inr (Has-right xs ys x h)

pub flat_map-Has : {X Y : Type 0} (f : X → List Y) (xs : List X) (y : Y) → Has (flat_map f xs) y → (x : X) × Has xs x × Has (f x) y
flat_map-Has f [] y h = absurd h
flat_map-Has f (x ∷ xs) y h =
    elim (Has-append (f x) (flat_map f xs) y h) [
      | inl k ↦ (x, inl refl, k)
      | inr k ↦ let r = flat_map-Has f xs y k in (r.0, inr r.1, r.2)
    ]

pub Has-flat_map : {X Y : Type 0} (f : X → List Y) (xs : List X) (x : X) (y : Y) → Has xs x → Has (f x) y → Has (flat_map f xs) y
Has-flat_map f [] x y h k = absurd h
Has-flat_map f (z ∷ xs) x y (inl e) k = Has-left (f z) (flat_map f xs) y (subst (λ (w : _). Has (f w) y) (sym e) k)
Has-flat_map f (z ∷ xs) x y (inr h) k = Has-right (f z) (flat_map f xs) y (Has-flat_map f xs x y h k)

pub all-at : {A : Type 0} (P : A → Type 0) (xs : List A) → AllByRecursion P xs → (x : A) → Has xs x → P x
all-at P [] h x k = absurd k
all-at P (y ∷ xs) h x (inl e) = subst P e h.0
all-at P (y ∷ xs) h x (inr k) = all-at P xs h.1 x k

pub map-some : {A B : Type 0} (f : A → B) (o : Option A) (y : B) → option_map f o ≡ Some y → (x : A) × (o ≡ Some x) × (f x ≡ y)
map-some f None y h = absurd cc
map-some f (Some x) y h = (x, refl, Some-same h)

-- ---- finite maps with the same look-ups

module _ {K X : Type 0} {R : K → K → Ordering} (o : IsTotalOrder R) (same : IsAntisymmetric R) where
  pub map_ext : (m n : FinMap R X) → ((q : K) (x : X) → fin.get m q ≡ Some x → fin.get n q ≡ Some x) → ((q : K) (x : X) → fin.get n q ≡ Some x → fin.get m q ≡ Some x) → m ≡ n
  map_ext m n f g = fin.same_map o same m n (λ q. by (fin.get m q) (fin.get n q) (f q) (g q))
    where
      by : (a b : Option X) → ((x : X) → a ≡ Some x → b ≡ Some x) → ((x : X) → b ≡ Some x → a ≡ Some x) → a ≡ b
      by None None f g = refl
      by None (Some y) f g = g y refl
      by (Some x) b f g = sym (f x refl)

  find-some : (es : List (K × X)) (q : K) (x : X) → Has es (q, x) → (y : X) × (find R q es ≡ Some y)
  find-some [] q x h = absurd h
  find-some (e ∷ es) q x h =
      elim (key_cases o same q e.0) [
        | inl p ↦ (e.1, cond-true (eq_by_cmp R q e.0) (Some e.1) (find R q es) p.1)
        | inr p ↦ let r = find-some es q x (other p.0 h) in (r.0, cond-false (eq_by_cmp R q e.0) (Some e.1) (find R q es) p.1 ∙ r.1)
      ]
    where
      other : q ≢ e.0 → (e ≡ (q, x)) ⊎ Has es (q, x) → Has es (q, x)
      other ne (inl p) = absurd (ne (sym (ap (λ (z : K × X). z.0) p)))
      other ne (inr k) = k

  -- entries of which each is the map's, and all of them
  pub from_entries-is : (es : List (K × X)) (m : FinMap R X) → ((q : K) (x : X) → Has es (q, x) → fin.get m q ≡ Some x) → ((q : K) (x : X) → fin.get m q ≡ Some x → Has es (q, x)) → fin.from_entries es ≡ m
  from_entries-is es m f g =
      map_ext (fin.from_entries es) m
      (λ q x h. f q x (Has-looked_up o same es q x (sym (fin.get-from_entries o es q) ∙ h)))
      (λ q x h.
      let y = find-some es q x (g q x h) in
      let e = f q y.0 (Has-looked_up o same es q y.0 y.1) in
      fin.get-from_entries o es q ∙ y.1 ∙ sym e ∙ h)

-- ---- locks made stable, released, dropped

or-true : (b : Bool) → (b || true) ≡ true
or-true true = refl
or-true false = refl

abbrev pub stabled : Lock → Bool → Lock
stabled lock own = record { mode = lock.mode; since = lock.since; version = lock.version; stable = lock.stable || own }

pub stabled-own : (lock : Lock) (own : Bool) → own ≡ true → stabled lock own ≡ record { mode = lock.mode; since = lock.since; version = lock.version; stable = true }
stabled-own lock own e =
    let p = ap (λ (b : Bool). lock.stable || b) e ∙ or-true lock.stable in
    λ i. record { mode = lock.mode; since = lock.since; version = lock.version; stable = p i }

pub stabled-other : (lock : Lock) (own : Bool) → own ≡ false → stabled lock own ≡ lock
stabled-other lock own e =
    let p = ap (λ (b : Bool). lock.stable || b) e ∙ or-false lock.stable in
    λ i. record { mode = lock.mode; since = lock.since; version = lock.version; stable = p i }

pub get-stabled : (m : Locks) (t : ℕ) (f : List ℕ) (u : ℕ) (lock : Lock) → fin.get m (f, u) ≡ Some lock → fin.get (locks_after_keep m t) (f, u) ≡ Some (stabled lock (u == t))
get-stabled m t f u lock h = get-kept m t (f, u) ∙ ap (option_map (λ (lock : Lock). (entry_after_keep t ((f, u), lock)).1)) h

pub get-own : (m : Locks) (t : ℕ) (f : List ℕ) (lock : Lock) → fin.get m (f, t) ≡ Some lock → fin.get (locks_after_keep m t) (f, t) ≡ Some (record { mode = lock.mode; since = lock.since; version = lock.version; stable = true })
get-own m t f lock h = get-stabled m t f t lock h ∙ ap (λ (l : Lock). Some l) (stabled-own lock (t == t) (eq-eqb t t refl))

pub get-others : (m : Locks) (t : ℕ) (f : List ℕ) (u : ℕ) (lock : Lock) → u ≢ t → fin.get m (f, u) ≡ Some lock → fin.get (locks_after_keep m t) (f, u) ≡ Some lock
get-others m t f u lock ne h = get-stabled m t f u lock h ∙ ap (λ (l : Lock). Some l) (stabled-other lock (u == t) (ne_eqb u t ne))

pub released-is : (locks : Locks) (t : ℕ) (f : List ℕ) (u : ℕ) (lock : Lock) → fin.get (locks_after_release locks t) (f, u) ≡ Some lock → (u ≢ t) × (fin.get locks (f, u) ≡ Some lock)
released-is locks t f u lock h = (
  λ e.
      let gone = fin.get-retain_keys locks (λ (key : LockKey). not (key.1 == t)) (f, u) (λ x q. ap (λ (key : LockKey). not (key.1 == t)) (sym (locks_same (f, u) x q))) in
      let n : Path (Option Lock) None (Some lock) = sym (gone ∙ cond-false (not (u == t)) (fin.get locks (f, u)) None (ap not (eq-eqb u t e))) ∙ h in
      absurd cc,
  retain-from locks_total locks_same locks (λ (key : LockKey). not (key.1 == t)) (f, u) lock h,
)

pub released-other : (m : Locks) (t : ℕ) (f : List ℕ) (u : ℕ) → u ≢ t → fin.get (locks_after_release m t) (f, u) ≡ fin.get m (f, u)
released-other m t f u ne = retain-in locks_total locks_same m (λ (key : LockKey). not (key.1 == t)) (f, u) (ap not (ne_eqb u t ne))

pub only_stable-in : (m : Locks) (q : LockKey) (lock : Lock) → fin.get m q ≡ Some lock → lock.stable ≡ true → fin.get (only_stable m) q ≡ Some lock
only_stable-in m q lock g s =
    retain-in locks_total locks_same m (λ (key : LockKey). option_map_or (λ (lock : Lock). lock.stable) (fin.get m key) false) q (ap (λ (o : Option Lock). option_map_or (λ lock. lock.stable) o false) g ∙ s) ∙ g

pub only_stable-is : (m : Locks) (q : LockKey) (lock : Lock) → fin.get (only_stable m) q ≡ Some lock → (fin.get m q ≡ Some lock) × (lock.stable ≡ true)
only_stable-is m q lock h =
    let g = retain-from locks_total locks_same m (λ (key : LockKey). option_map_or (λ (lock : Lock). lock.stable) (fin.get m key) false) q lock h in
    elim (cases_Bool lock.stable) [
      | inl s ↦ (g, s)
      | inr s ↦
          let t : option_map_or (λ (lock : Lock). lock.stable) (fin.get m q) false ≡ false = ap (λ (o : Option Lock). option_map_or (λ lock. lock.stable) o false) g ∙ s in
          let gone = fin.get-retain_keys m (λ (key : LockKey). option_map_or (λ (lock : Lock). lock.stable) (fin.get m key) false) q (λ x e. ap (λ (key : LockKey). option_map_or (λ (lock : Lock). lock.stable) (fin.get m key) false) (sym (locks_same q x e))) in
          let n : Path (Option Lock) None (Some lock) = sym (gone ∙ cond-false _ (fin.get m q) None t) ∙ h in
          absurd cc
    ]

pub only_stable-twice : (m : Locks) → only_stable (only_stable m) ≡ only_stable m
only_stable-twice m =
    map_ext locks_total locks_same (only_stable (only_stable m)) (only_stable m)
    (λ q lock h. (only_stable-is (only_stable m) q lock h).0)
    (λ q lock h. only_stable-in (only_stable m) q lock h (only_stable-is m q lock h).1)

-- ---- the stable locks are those of the votes, after a change

pub locks-none : LocksIn fin.empty fin.empty
locks-none =
    record {
      stable_of = λ f t lock g x. let n : Path (Option Lock) None (Some lock) = sym (fin.get-empty _ (f, t)) ∙ g in absurd cc;
      of_vote = λ t vote g k has. let n : Path (Option OpenVote) None (Some vote) = sym (fin.get-empty _ t) ∙ g in absurd cc;
    }

pub locks-granted : (locks : Locks) (votes : Votes) (f : List ℕ) (t : ℕ) (m : Mode) (n v : ℕ) → fin.get votes t ≡ None → LocksIn locks votes → LocksIn (locks_after_grant locks f t m n v) votes
locks-granted locks votes f t m n v none h =
    record {
      stable_of = λ g u lock k s.
          elim (insert-cases locks_total locks_same locks (f, t) (lock_after (fin.get locks (f, t)) m n v) (g, u) lock k) [
            | inl p ↦ absurd (was (fin.get locks (f, t)) refl (ap (λ (l : Lock). l.stable) p.1 ∙ s))
            | inr p ↦ h.stable_of g u lock p.1 s
          ];
      of_vote = λ u vote g k has.
          insert-other locks_total locks_same locks (f, t) (lock_after (fin.get locks (f, t)) m n v) (k.file, u)
          (λ e. let x : Path (Option OpenVote) None (Some vote) = sym none ∙ ap (fin.get votes) (sym (ap (λ (key : LockKey). key.1) e)) ∙ g in absurd cc)
          ∙ h.of_vote u vote g k has;
    }
  where
    was : (o : Option Lock) → fin.get locks (f, t) ≡ o → (lock_after o m n v).stable ≡ true → ⊥
    was None e s = false≢true s
    was (Some lock) e s = let x = h.stable_of f t lock e s in let y : Path (Option OpenVote) None (Some x.0) = sym none ∙ x.1 in absurd cc

pub locks-prepared : (locks : Locks) (votes : Votes) (t n : ℕ) (w : List Write) → fin.get votes t ≡ None → LocksIn locks votes
    → LocksIn (locks_after_keep locks t) (fin.insert votes t (record { number = n; writes = w; locks = map kept_lock (held_of locks t) }))
locks-prepared locks votes t n w none h =
    record {
      stable_of = λ g u lock k s.
          elim (cases_eq u t) [
            | inl e ↦ own g u lock e k
            | inr ne ↦ other g u lock ne k s
          ];
      of_vote = λ u vote g k has.
          elim (insert-cases nat_cmp_total nat_cmp-IsAntisymmetric votes t new_vote u vote g) [
            | inl p ↦
                subst (λ (x : ℕ). fin.get (locks_after_keep locks t) (k.file, x) ≡ Some (stable_lock x k).1) (sym p.0)
                (entry k (Has-map kept_lock (held_of locks t) k (subst (λ (x : OpenVote). Has x.locks k) (sym p.1) has)))
            | inr p ↦ get-others locks t k.file u (stable_lock u k).1 p.0 (h.of_vote u vote p.1 k has)
          ];
    }
  where
    new_vote : OpenVote
    new_vote = record { number = n; writes = w; locks = map kept_lock (held_of locks t) }

    entry : (k : KeptLock) → (e : LockKey × Lock) × Has (held_of locks t) e × (kept_lock e ≡ k) → fin.get (locks_after_keep locks t) (k.file, t) ≡ Some (stable_lock t k).1
    entry k x =
        let e = x.0 in
        let y = Has-filter (λ (entry : LockKey × Lock). entry.0.1 == t) (fin.entries locks) e x.1 in
        let g = get-entry_of locks_total locks_same locks e y.0 in
        let at_t : fin.get locks (e.0.0, t) ≡ Some e.1 = ap (λ (z : ℕ). fin.get locks (e.0.0, z)) (sym (eqb-true e.0.1 t y.1)) ∙ g in
        subst (λ (z : KeptLock). fin.get (locks_after_keep locks t) (z.file, t) ≡ Some (stable_lock t z).1) x.2 (get-own locks t e.0.0 e.1 at_t)

    own : (g : List ℕ) (u : ℕ) (lock : Lock) → u ≡ t → fin.get (locks_after_keep locks t) (g, u) ≡ Some lock
        → (vote : OpenVote) × (fin.get (fin.insert votes t new_vote) u ≡ Some vote) × ((k : KeptLock) × Has vote.locks k × (stable_lock u k ≡ ((g, u), lock)))
    own g u lock e k =
        let x = map-some (λ (lock : Lock). (entry_after_keep t ((g, u), lock)).1) (fin.get locks (g, u)) lock (sym (get-kept locks t (g, u)) ∙ k) in
        let was = x.0 in
        let is : record { mode = was.mode; since = was.since; version = was.version; stable = true } ≡ lock = sym (stabled-own was (u == t) (eq-eqb u t e)) ∙ x.2 in
        let has = filter-Has (λ (entry : LockKey × Lock). entry.0.1 == t) (fin.entries locks) ((g, u), was) (entry_of locks_total locks_same locks (g, u) was x.1) (eq-eqb u t e) in (
          new_vote,
          ap (fin.get (fin.insert votes t new_vote)) e ∙ insert-same nat_cmp_total nat_cmp-IsAntisymmetric votes t new_vote,
          (kept_lock ((g, u), was), map-Has kept_lock (held_of locks t) ((g, u), was) has, λ i. ((g, u), is i)),
        )

    other : (g : List ℕ) (u : ℕ) (lock : Lock) → u ≢ t → fin.get (locks_after_keep locks t) (g, u) ≡ Some lock → lock.stable ≡ true
        → (vote : OpenVote) × (fin.get (fin.insert votes t new_vote) u ≡ Some vote) × ((k : KeptLock) × Has vote.locks k × (stable_lock u k ≡ ((g, u), lock)))
    other g u lock ne k s =
        let x = map-some (λ (lock : Lock). (entry_after_keep t ((g, u), lock)).1) (fin.get locks (g, u)) lock (sym (get-kept locks t (g, u)) ∙ k) in
        let was = x.0 in
        let is : was ≡ lock = sym (stabled-other was (u == t) (ne_eqb u t ne)) ∙ x.2 in
        let y = h.stable_of g u lock (x.1 ∙ ap (λ (l : Lock). Some l) is) s in
        (y.0, insert-other nat_cmp_total nat_cmp-IsAntisymmetric votes t new_vote u ne ∙ y.1, y.2)

pub locks-decided : (locks : Locks) (votes : Votes) (t : ℕ) → LocksIn locks votes → LocksIn (locks_after_release locks t) (fin.remove votes t)
locks-decided locks votes t h =
    record {
      stable_of = λ g u lock k s.
          let r = released-is locks t g u lock k in
          let x = h.stable_of g u lock r.1 s in
          (x.0, remove-other nat_cmp_total nat_cmp-IsAntisymmetric votes t u r.0 ∙ x.1, x.2);
      of_vote = λ u vote g k has.
          let r = remove-cases nat_cmp_total nat_cmp-IsAntisymmetric votes t u vote g in
          released-other locks t k.file u r.0 ∙ h.of_vote u vote r.1 k has;
    }

pub locks-released : (locks : Locks) (votes : Votes) (t : ℕ) → fin.get votes t ≡ None → LocksIn locks votes → LocksIn (locks_after_release locks t) votes
locks-released locks votes t none h =
    record {
      stable_of = λ g u lock k s. h.stable_of g u lock (released-is locks t g u lock k).1 s;
      of_vote = λ u vote g k has.
          released-other locks t k.file u (λ e. let x : Path (Option OpenVote) None (Some vote) = sym none ∙ ap (fin.get votes) (sym e) ∙ g in absurd cc) ∙ h.of_vote u vote g k has;
    }

pub locks-crashed : (locks : Locks) (votes : Votes) → LocksIn locks votes → LocksIn (only_stable locks) votes
locks-crashed locks votes h =
    record {
      stable_of = λ g u lock k s. h.stable_of g u lock (only_stable-is locks (g, u) lock k).0 s;
      of_vote = λ u vote g k has. only_stable-in locks (k.file, u) (stable_lock u k).1 (h.of_vote u vote g k has) refl;
    }

-- ---- and so the records keep them

pub kept_locks-is : (list : List Record) (locks : Locks) → HasOneVoteEach list → LocksIn locks (kept_votes list) → kept_locks list ≡ only_stable locks
kept_locks-is list locks one l =
    from_entries-is locks_total locks_same (flat_map (λ (vote : ℕ × OpenVote). map (stable_lock vote.0) vote.1.locks) (open_votes list)) (only_stable locks) there back
  where
    there : (q : LockKey) (lock : Lock) → Has (flat_map (λ (vote : ℕ × OpenVote). map (stable_lock vote.0) vote.1.locks) (open_votes list)) (q, lock) → fin.get (only_stable locks) q ≡ Some lock
    there q lock h =
        let e = flat_map-Has (λ (vote : ℕ × OpenVote). map (stable_lock vote.0) vote.1.locks) (open_votes list) (q, lock) h in
        let k = Has-map (stable_lock e.0.0) e.0.1.locks (q, lock) e.2 in
        let g = l.of_vote e.0.0 e.0.1 (all-at (λ (entry : ℕ × OpenVote). fin.get (kept_votes list) entry.0 ≡ Some entry.1) (open_votes list) one e.0 e.1) k.0 k.1 in
        subst (λ (x : LockKey × Lock). fin.get (only_stable locks) x.0 ≡ Some x.1) k.2 (only_stable-in locks ((k.0).file, e.0.0) (stable_lock e.0.0 k.0).1 g refl)

    back : (q : LockKey) (lock : Lock) → fin.get (only_stable locks) q ≡ Some lock → Has (flat_map (λ (vote : ℕ × OpenVote). map (stable_lock vote.0) vote.1.locks) (open_votes list)) (q, lock)
    back q lock h =
        let g = only_stable-is locks q lock h in
        let s = l.stable_of q.0 q.1 lock g.0 g.1 in
        let k = s.2 in
        Has-flat_map (λ (vote : ℕ × OpenVote). map (stable_lock vote.0) vote.1.locks) (open_votes list) (q.1, s.0) (q, lock)
        (Has-looked_up nat_cmp_total nat_cmp-IsAntisymmetric (open_votes list) q.1 s.0 (sym (fin.get-from_entries nat_cmp_total (open_votes list) q.1) ∙ s.1))
        (subst (λ (x : LockKey × Lock). Has (map (stable_lock q.1) (s.0).locks) x) k.2 (map-Has (stable_lock q.1) (s.0).locks k.0 k.1))

-- locks that a list keeps are stable
kept_lock-stable : (list : List Record) (q : LockKey) (lock : Lock) → fin.get (kept_locks list) q ≡ Some lock → lock.stable ≡ true
kept_lock-stable list q lock h =
    let es = flat_map (λ (vote : ℕ × OpenVote). map (stable_lock vote.0) vote.1.locks) (open_votes list) in
    let has = Has-looked_up locks_total locks_same es q lock (sym (fin.get-from_entries locks_total es q) ∙ h) in
    let e = flat_map-Has (λ (vote : ℕ × OpenVote). map (stable_lock vote.0) vote.1.locks) (open_votes list) (q, lock) has in
    let k = Has-map (stable_lock e.0.0) e.0.1.locks (q, lock) e.2 in
    sym (ap (λ (x : LockKey × Lock). x.1.stable) k.2)

pub kept_locks-stable : (list : List Record) → kept_locks list ≡ only_stable (kept_locks list)
kept_locks-stable list =
    map_ext locks_total locks_same (kept_locks list) (only_stable (kept_locks list))
    (λ q lock h. only_stable-in (kept_locks list) q lock h (kept_lock-stable list q lock h))
    (λ q lock h. (only_stable-is (kept_locks list) q lock h).0)
