-- Look-ups in finite maps whose keys are told apart by their order. The copy of a file after writes are installed.
-- Copies that a server's step leaves.
use Rattle.std.proofs.Common.{◌≡◌, ◌≢◌, Bool, true, false, cond, Option, Some, None, sym, ap, ◌∙◌, ◌⊎◌, inl, inr, ℕ, ◌≤◌, ◌<◌, List, [], ◌∷◌, refl, subst, arith, map}
use Rattle.std.proofs.lemmas.Bool.{cases_Bool, cond-true, cond-false, true≢false, ltb-true, ltb-false, or_parts}
use Rattle.std.{proofs.lemmas.Cmp.{tied_itself, nat_list_cmp_total}, specs.{Cmp.IsTotalOrder, Prelude.nat_lt}}
use Rattle.std.specs.{Ordering.{is_eq, eq_by_cmp}, declared.cmp.Ordering.Ordering, List.{AllByRecursion, list_any}}
use Rattle.std.specs.FinMap.{FinMap, IsAntisymmetric, nat_cmp-IsAntisymmetric, slice_cmp-IsAntisymmetric}
use Rattle.std.specs.FinMap as fin
use Rattle.tq_shape.{proofs.{Places.Some-same, Options.is_eq-Equal}, specs.Journal.Has}
use Rattle.tq_store.specs.Copies.{Files, name_cmp, copy_of, copy_in, copies_after_install, installed_all}
use Rattle.tq_store.specs.{declared.copies.FileCopy.FileCopy, declared.write.Write.Write, Names.same_name}
use Rattle.tq_store.proofs.Installed.{Installs-installed, rises-installed, rises-installed_all, rises_then}
use Rattle.tq_store.proofs.Padded.{same_name-refl}
use Rattle.tq_node.specs.{NodeJournal.HasWrite, NodeChanges.records_after_step, Records.Records}
use Rattle.tq_node.specs.Telling.{AreReached, KeepsOthers, raised_files, step_raises}
use Rattle.tq_node.specs.declared.change.NodeStep.{NodeStep}
use Rattle.tq_asks.specs.declared.ask.NodeAsk.{NodeAsk}
use Rattle.tq_node.specs.declared.change.NodeStep.TheVariants as steps

module _ {K : Type 0} {R : K → K → Ordering} (o : IsTotalOrder R) where
  tied-true : (q : K) → eq_by_cmp R q q ≡ true
  tied-true q = ap is_eq (tied_itself o q)

  pub key_cases : IsAntisymmetric R → (q k : K) → ((q ≡ k) × (eq_by_cmp R q k ≡ true)) ⊎ ((q ≢ k) × (eq_by_cmp R q k ≡ false))
  key_cases same q k =
      elim (cases_Bool (eq_by_cmp R q k)) [
        | inl t ↦ inl (same q k (is_eq-Equal (R q k) t), t)
        | inr f ↦ inr ((λ e. true≢false (sym (tied-true q) ∙ ap (λ (x : K). eq_by_cmp R q x) e ∙ f)), f)
      ]

module _ {K X : Type 0} {R : K → K → Ordering} (o : IsTotalOrder R) (same : IsAntisymmetric R) where
  pub insert-same : (m : FinMap R X) (k : K) (v : X) → fin.get (fin.insert m k v) k ≡ Some v
  insert-same m k v = fin.get-insert o m k v k ∙ cond-true (eq_by_cmp R k k) (Some v) (fin.get m k) (ap is_eq (tied_itself o k))

  pub insert-other : (m : FinMap R X) (k : K) (v : X) (q : K) → q ≢ k → fin.get (fin.insert m k v) q ≡ fin.get m q
  insert-other m k v q ne =
      elim (key_cases o same q k) [
        | inl p ↦ absurd (ne p.0)
        | inr p ↦ fin.get-insert o m k v q ∙ cond-false (eq_by_cmp R q k) (Some v) (fin.get m q) p.1
      ]

  pub insert-cases : (m : FinMap R X) (k : K) (v : X) (q : K) (x : X) → fin.get (fin.insert m k v) q ≡ Some x → ((q ≡ k) × (v ≡ x)) ⊎ ((q ≢ k) × (fin.get m q ≡ Some x))
  insert-cases m k v q x h =
      elim (key_cases o same q k) [
        | inl p ↦ inl (p.0, Some-same (sym (insert-same m k v) ∙ ap (fin.get (fin.insert m k v)) (sym p.0) ∙ h))
        | inr p ↦ inr (p.0, sym (insert-other m k v q p.0) ∙ h)
      ]

  pub remove-other : (m : FinMap R X) (k q : K) → q ≢ k → fin.get (fin.remove m k) q ≡ fin.get m q
  remove-other m k q ne =
      elim (key_cases o same q k) [
        | inl p ↦ absurd (ne p.0)
        | inr p ↦ fin.get-remove o m k q ∙ cond-false (eq_by_cmp R q k) None (fin.get m q) p.1
      ]

  pub remove-cases : (m : FinMap R X) (k q : K) (x : X) → fin.get (fin.remove m k) q ≡ Some x → (q ≢ k) × (fin.get m q ≡ Some x)
  remove-cases m k q x h =
      elim (key_cases o same q k) [
        | inl p ↦ let n : Path (Option X) None (Some x) = sym (fin.get-remove o m k q ∙ cond-true (eq_by_cmp R q k) None (fin.get m q) p.1) ∙ h in absurd cc
        | inr p ↦ (p.0, sym (remove-other m k q p.0) ∙ h)
      ]

  get-retain : (m : FinMap R X) (p : K → Bool) (q : K) → fin.get (fin.retain_keys m p) q ≡ cond (p q) (fin.get m q) None
  get-retain m p q = fin.get-retain_keys m p q (λ x t. ap p (sym (same q x t)))

  pub retain-in : (m : FinMap R X) (p : K → Bool) (q : K) → p q ≡ true → fin.get (fin.retain_keys m p) q ≡ fin.get m q
  retain-in m p q t = get-retain m p q ∙ cond-true (p q) (fin.get m q) None t

  pub retain-from : (m : FinMap R X) (p : K → Bool) (q : K) (x : X) → fin.get (fin.retain_keys m p) q ≡ Some x → fin.get m q ≡ Some x
  retain-from m p q x h =
      elim (cases_Bool (p q)) [
        | inl t ↦ sym (retain-in m p q t) ∙ h
        | inr f ↦ let n : Path (Option X) None (Some x) = sym (get-retain m p q ∙ cond-false (p q) (fin.get m q) None f) ∙ h in absurd cc
      ]

-- ---- installed

name_same : IsAntisymmetric name_cmp
name_same = slice_cmp-IsAntisymmetric nat_cmp-IsAntisymmetric

-- at a file: equal, or raised to the copy
pub installed-cases : (files : Files) (name : List ℕ) (copy : FileCopy) (f : List ℕ)
    → (copy_of (copies_after_install files name copy) f ≡ copy_of files f) ⊎ ((f ≡ name) × (copy_of (copies_after_install files name copy) f ≡ copy) × ((copy_of files f).version < copy.version))
installed-cases files name copy f =
    let comes = Installs-installed files name copy in
    elim (key_cases nat_list_cmp_total name_same f name) [
      | inl p ↦
          elim (cases_Bool (nat_lt (copy_of files name).version copy.version)) [
            | inl t ↦
                let less = ltb-true (copy_of files name).version copy.version t in
                inr (p.0, ap (copy_of (copies_after_install files name copy)) p.0 ∙ comes.newer less, subst (λ (x : List ℕ). (copy_of files x).version < copy.version) (sym p.0) less)
            | inr e ↦
                let more = ltb-false (copy_of files name).version copy.version e in
                inl (ap (copy_of (copies_after_install files name copy)) p.0 ∙ comes.no_newer more ∙ ap (copy_of files) (sym p.0))
          ]
      | inr p ↦ inl (comes.others f p.0)
    ]

pub installed-low : (files : Files) (name : List ℕ) (copy : FileCopy) → copy.version ≤ (copy_of (copies_after_install files name copy) name).version
installed-low files name copy =
    let comes = Installs-installed files name copy in
    elim (cases_Bool (nat_lt (copy_of files name).version copy.version)) [
      | inl t ↦ let v = ap (λ (x : FileCopy). x.version) (comes.newer (ltb-true (copy_of files name).version copy.version t)) in omega arith
      | inr e ↦
          let more = ltb-false (copy_of files name).version copy.version e in
          let v = ap (λ (x : FileCopy). x.version) (comes.no_newer more) in
          omega arith
    ]

pub all-low : (ws : List Write) (files : Files) (f : List ℕ) (v : ℕ) (c : List ℕ) → HasWrite ws f v c → v ≤ (copy_of (installed_all files ws) f).version
all-low [] files f v c h = absurd h.is_there
all-low (w ∷ ws) files f v c h = by h.is_there (λ k. all-low ws (copies_after_install files w.file (copy_in w)) f v c (record { is_there = k }))
  where
    by : (w ≡ record { file = f; version = v; content = c }) ⊎ Has ws (record { file = f; version = v; content = c }) → (Has ws (record { file = f; version = v; content = c }) → v ≤ (copy_of (installed_all files (w ∷ ws)) f).version)
        → v ≤ (copy_of (installed_all files (w ∷ ws)) f).version
    by (inl e) ih =
        let a = installed-low files w.file (copy_in w) in
        let fe = ap (λ (x : Write). x.file) e in
        let ve = ap (λ (x : Write). x.version) e in
        let a' : w.version ≤ (copy_of (copies_after_install files w.file (copy_in w)) f).version = subst (λ (x : List ℕ). w.version ≤ (copy_of (copies_after_install files w.file (copy_in w)) x).version) fe a in
        let b = rises-installed_all (copies_after_install files w.file (copy_in w)) ws f in
        omega arith
    by (inr k) ih = ih k

pub all-cases : (ws : List Write) (files : Files) (f : List ℕ)
    → (copy_of (installed_all files ws) f ≡ copy_of files f)
    ⊎ (((copy_of files f).version < (copy_of (installed_all files ws) f).version) × HasWrite ws f (copy_of (installed_all files ws) f).version (copy_of (installed_all files ws) f).content)
all-cases [] files f = inl refl
all-cases (w ∷ ws) files f =
    elim (all-cases ws (copies_after_install files w.file (copy_in w)) f) [
      | inl e ↦
          elim (installed-cases files w.file (copy_in w) f) [
            | inl d ↦ inl (e ∙ d)
            | inr p ↦
                let is : copy_of (installed_all (copies_after_install files w.file (copy_in w)) ws) f ≡ copy_in w = e ∙ p.1 in
                let v = ap (λ (x : FileCopy). x.version) is in
                let l = p.2 in
                let fs = sym p.0 in
                inr (omega arith, record { is_there = inl (λ i. record { file = fs i; version = (sym is i).version; content = (sym is i).content }) })
          ]
      | inr r ↦
          let a = rises-installed files w.file (copy_in w) f in
          let b = r.0 in
          inr (omega arith, record { is_there = inr (r.1).is_there })
    ]

-- ---- untouched

other-installed : (files : Files) (name : List ℕ) (copy : FileCopy) (other : List ℕ) → same_name other name ≡ false → copy_of (copies_after_install files name copy) other ≡ copy_of files other
other-installed files name copy other differs =
    (Installs-installed files name copy).others other (λ same. true≢false (sym (same_name-refl other) ∙ ap (same_name other) same ∙ differs))

other-installed_all : (files : Files) (writes : List Write) → KeepsOthers (map (λ write. write.file) writes) files (installed_all files writes)
other-installed_all files [] other none = refl
other-installed_all files (write ∷ writes) other none =
    let both = or_parts (same_name other write.file) (list_any (same_name other) (map (λ w. w.file) writes)) none in
    other-installed_all (copies_after_install files write.file (copy_in write)) writes other both.1
    ∙ other-installed files write.file (copy_in write) other both.0

-- the copies of other files stay under a step
pub step-keeps : (ask : NodeAsk) (old : Records) (number : ℕ) (step : NodeStep) → KeepsOthers (raised_files ask (step_raises step)) old.copies (records_after_step old number step).copies
step-keeps ask old number steps.Nothing file none = refl
step-keeps ask old number (steps.Lock txn name mode version) file none = refl
step-keeps ask old number (steps.Vote txn vote) file none = refl
step-keeps ask old number (steps.Discard txn vote) file none = refl
step-keeps ask old number (steps.Install txn vote writes newer) file none = other-installed_all old.copies writes file none
step-keeps ask old number (steps.Release txn) file none = refl
step-keeps ask old number (steps.Refresh write) file none =
    other-installed old.copies write.file (record { version = write.version; content = write.content }) file (or_parts (same_name file write.file) false none).0
step-keeps ask old number (steps.Unfinished records) file none = refl
step-keeps ask old number (steps.Copies newer) file none = other-installed_all old.copies newer file none
step-keeps ask old number steps.Crash file none = refl
step-keeps ask old number steps.Return file none = refl

-- ---- and those of its own files come to the versions told

own-installed_all : (files : Files) (writes : List Write) → AllByRecursion (λ write. write.version ≤ (copy_of (installed_all files writes) write.file).version) writes
own-installed_all files [] = tt
own-installed_all files (write ∷ writes) =
    let first = copies_after_install files write.file (copy_in write) in
    (rises_then _ _ _ (installed-low files write.file (copy_in write)) (rises-installed_all first writes write.file), own-installed_all first writes)

pub step-reaches : (ask : NodeAsk) (old : Records) (number : ℕ) (step : NodeStep) → AreReached ask (step_raises step) (records_after_step old number step).copies
step-reaches ask old number steps.Nothing = tt
step-reaches ask old number (steps.Lock txn name mode version) = tt
step-reaches ask old number (steps.Vote txn vote) = tt
step-reaches ask old number (steps.Discard txn vote) = tt
step-reaches ask old number (steps.Install txn vote writes newer) = own-installed_all old.copies writes
step-reaches ask old number (steps.Release txn) = tt
step-reaches ask old number (steps.Refresh write) = (installed-low old.copies write.file (record { version = write.version; content = write.content }), tt)
step-reaches ask old number (steps.Unfinished records) = tt
step-reaches ask old number (steps.Copies newer) = own-installed_all old.copies newer
step-reaches ask old number steps.Crash = tt
step-reaches ask old number steps.Return = tt
