-- What a server replies, and what it is afterwards, is a step by the cases.
use Rattle.std.specs.{Prelude.{◌==◌, not, ◌&&◌, nat_le, IfOk, OnOk, Ok, Err, Result}, Cmp.ranks}
use Rattle.std.specs.{Cmp.Lexicographic.same_text, List.{AllByRecursion, find}, Option.{option_map_or, is_some}}
use Rattle.std.specs.{Ordering.{MatchOrdering, nat_cmp, ordering_then}, declared.alloc.AllocError.AllocError}
use Rattle.std.specs.declared.cmp.{Ordering.Ordering, Ordering.TheVariants.{Less, Equal, Greater}}
use Rattle.std.proofs.Common.{◌≡◌, ℕ, ◌≤◌, ◌<◌, Bool, true, false, cond, List, [], ◌∷◌, ◌++◌, Option, Some, None, refl, sym, ap, subst, ◌∙◌, inl, inr, arith}
use Rattle.std.proofs.lemmas.Bool.{cases_Bool, cond-true, cond-false, false≢true, true≢false, and_parts, and_from, eqb-true, eq-eqb, ne_eqb, leb-true, leb-false, not-true, not-false}
use Rattle.std.proofs.lemmas.Cmp.{tied_itself, nat_list_cmp_total}
use Rattle.std.specs.FinMap as fin
use Rattle.tq_shape.specs.Journal.{Has, is_empty, refuse, refuse_for, state_at}
use Rattle.tq_shape.proofs.Places.{Some-same, find-Has, none-Has, any-Has, Has-any}
use Rattle.tq_shape.proofs.Options.{none_of, some_of, map-none}
use Rattle.tq_store.specs.{Copies.{name_cmp, copy_of, installed_all}, declared.write.Write.Write, Names.same_name}
use Rattle.tq_store.proofs.Padded.{same_name-refl}
use Rattle.tq_locks.specs.Locks.{LockKey, lock_cmp, conflicts, is_exclusive, blocks, blocker, held_of, holds_nothing, locks_after_release, only_stable}
use Rattle.tq_locks.specs.declared.mode.{Lock.Lock, Mode.Mode, Mode.TheVariants.{Shared, Exclusive}}
use Rattle.tq_locks.proofs.Found.{locks_total, locks_same, entry_of, first_passes, get-entry_of}
use Rattle.tq_intents.specs.declared.record.{OpenVote.OpenVote, Record.Record}
use Rattle.tq_asks.specs.declared.ask.{CitedVote.CitedVote, NodeAsk.NodeAsk, NodeRefusal.NodeRefusal, Verdict.Verdict}
use Rattle.tq_asks.specs.declared.ask.{NodeAsk.TheVariants.{Work, Crash, Return, CrashIn}, NodeReply.NodeReply}
use Rattle.tq_asks.specs.{declared.ask.{Verdict.TheVariants.{Abort, Commit}, WorkAsk.WorkAsk}, Verdicts.cites_vote}
use Rattle.tq_asks.specs.declared.ask.NodeRefusal.TheVariants as refusals
use Rattle.tq_asks.specs.declared.ask.NodeReply.TheVariants as replies
use Rattle.tq_asks.specs.declared.ask.WorkAsk.TheVariants as work
use Rattle.tq_node.specs.Records.{Records, NodeState, has_vote, holds_exclusively, not_locked, are_good_writes, lock_refusal, prepare_refusal, release_refusal, work_refusal, refusal, open_vote, installs, work_reply, reply_of, work_after, records_after, answer_at, node_reply, node_after, kept_records, stop_writes}
use Rattle.tq_node.specs.{Cases.{IsStep, IsUp, Holds, Blocks, Cites}, Node.{IsKept, NodeView, server_after}}
use Rattle.tq_node.proofs.KeptLocks.{kept_locks-stable, map-some, only_stable-twice}

-- ---- options and lists

absent : {A : Type 0} (o : Option A) → not (is_some o) ≡ true → o ≡ None
absent None h = refl
absent (Some x) h = absurd (false≢true h)

nothing_there : {A : Type 0} (xs : List A) → is_empty xs ≡ true → xs ≡ []
nothing_there [] h = refl
nothing_there (x ∷ xs) h = absurd (false≢true h)

something_there : {A : Type 0} (xs : List A) → is_empty xs ≡ false → xs ≡ [] → ⊥
something_there xs h e = true≢false (sym (ap is_empty e) ∙ h)

-- the first element that passes parts the list
pub record IsFirst {A : Type 0} (p : A → Bool) (xs : List A) (x : A) : Type 0 where
  pub before : List A
  pub after : List A
  pub parts : xs ≡ before ++ x ∷ after
  pub fail : AllByRecursion (λ y. p y ≡ false) before
  pub passes : p x ≡ true

find-first : {A : Type 0} (p : A → Bool) (xs : List A) (x : A) → find p xs ≡ Some x → IsFirst p xs x
find-first p [] x h = absurd cc
find-first p (y ∷ ys) x h =
    elim (cases_Bool (p y)) [
      | inl t ↦
          let e : y ≡ x = Some-same (sym (cond-true (p y) (Some y) (find p ys) t) ∙ h) in
          record { before = []; after = ys; parts = ap (λ (z : _). z ∷ ys) e; fail = tt; passes = ap p (sym e) ∙ t }
      | inr f ↦
          let r = find-first p ys x (sym (cond-false (p y) (Some y) (find p ys) f) ∙ h) in
          record { before = y ∷ r.before; after = r.after; parts = ap (λ (zs : List _). y ∷ zs) r.parts; fail = (f, r.fail); passes = r.passes }
    ]

find-none : {A : Type 0} (p : A → Bool) (xs : List A) → find p xs ≡ None → AllByRecursion (λ y. p y ≡ false) xs
find-none p [] h = tt
find-none p (y ∷ ys) h =
    elim (cases_Bool (p y)) [
      | inl t ↦ let n : Path (Option _) (Some y) None = sym (cond-true (p y) (Some y) (find p ys) t) ∙ h in absurd cc
      | inr f ↦ (f, find-none p ys (sym (cond-false (p y) (Some y) (find p ys) f) ∙ h))
    ]

all-map : {A : Type 0} (P Q : A → Type 0) (xs : List A) → ((x : A) → P x → Q x) → AllByRecursion P xs → AllByRecursion Q xs
all-map P Q [] f h = tt
all-map P Q (x ∷ xs) f h = (f x h.0, all-map P Q xs f h.1)

-- among entries that rise, the first that passes is the least
-- ---- the refusals, one after another

by_test : (P : Option NodeRefusal → Type 0) (b : Bool) (reason : NodeRefusal) (next : Option NodeRefusal) → (b ≡ true → P (Some reason)) → (b ≡ false → P next) → P (refuse b reason next)
by_test P true reason next f g = f refl
by_test P false reason next f g = g refl

by_value : {A : Type 0} (P : Option NodeRefusal → Type 0) (o : Option A) (reason : A → NodeRefusal) (next : Option NodeRefusal) → ((x : A) → o ≡ Some x → P (Some (reason x))) → (o ≡ None → P next) → P (refuse_for o reason next)
by_value P None reason next f g = g refl
by_value P (Some x) reason next f g = f x refl

-- ---- locks that block

entry_blocks : (old : Records) (txn : ℕ) (file : List ℕ) (mode : Mode) (e : LockKey × Lock) → Has (fin.entries old.locks) e → blocks file txn mode e ≡ true → (e.0.0 ≡ file) × Blocks old txn file mode e.0.1
entry_blocks old txn file mode e has t =
    let p = and_parts (same_name file e.0.0 && not (txn == e.0.1)) (conflicts mode e.1.mode) t in
    let q = and_parts (same_name file e.0.0) (not (txn == e.0.1)) p.0 in
    let f = same_text file e.0.0 (sym q.0) in (
      sym f,
      record {
        other = λ same. false≢true (sym (ap not (eq-eqb txn e.0.1 (sym same))) ∙ q.1);
        lock = e.1;
        is_there = ap (λ (name : List ℕ). fin.get old.locks (name, e.0.1)) f ∙ get-entry_of locks_total locks_same old.locks e has;
        conflict = p.1;
      },
    )

blocking_entry : (old : Records) (txn : ℕ) (file : List ℕ) (mode : Mode) (t : ℕ) (h : Blocks old txn file mode t) → Has (fin.entries old.locks) ((file, t), h.lock) × (blocks file txn mode ((file, t), h.lock) ≡ true)
blocking_entry old txn file mode t h = (
  entry_of locks_total locks_same old.locks (file, t) h.lock h.is_there,
  and_from (same_name file file && not (txn == t)) (conflicts mode (h.lock).mode)
      (and_from (same_name file file) (not (txn == t)) (same_name-refl file) (ap not (ne_eqb txn t (λ e. h.other (sym e))))) h.conflict,
)

then-Less : (a b : Ordering) → a ≡ Equal → ordering_then a b ≡ Less → b ≡ Less
then-Less Equal b e h = h
then-Less Less b e h = absurd cc
then-Less Greater b e h = absurd cc

least_first : (file name : List ℕ) (s t : ℕ) → name ≡ file → lock_cmp (name, s) (file, t) ≡ Less → s < t
least_first file name s t e h =
    nat_less s t (then-Less (name_cmp name file) (nat_cmp s t) (ap (λ (x : List ℕ). name_cmp x file) e ∙ tied_itself nat_list_cmp_total file) h)
  where
    nat_less : (s t : ℕ) → nat_cmp s t ≡ Less → s < t
    nat_less s t h = subst (λ (o : Ordering). MatchOrdering o (s < t) (s ≡ t) (t < s)) h (ranks s t)

pub blocker_is : (old : Records) (txn : ℕ) (file : List ℕ) (mode : Mode) (by : ℕ) → blocker old.locks file txn mode ≡ Some by → Blocks old txn file mode by × ((t : ℕ) → Blocks old txn file mode t → by ≤ t)
blocker_is old txn file mode by h =
    let m = map-some (λ (e : LockKey × Lock). e.0.1) (find (blocks file txn mode) (fin.entries old.locks)) by h in
    let e = m.0 in
    let is_found = find-Has (blocks file txn mode) (fin.entries old.locks) e m.1 in
    let b = entry_blocks old txn file mode e is_found.0 is_found.1 in (
      subst (λ (t : ℕ). Blocks old txn file mode t) m.2 b.1,
      λ t k.
          let x = blocking_entry old txn file mode t k in
          subst (λ (s : ℕ). s ≤ t) m.2
          (elim (first_passes locks_total locks_same (blocks file txn mode) (fin.entries old.locks) e ((file, t), k.lock) (fin.entries_sorted old.locks) m.1 x.0 x.1) [
            | inl q ↦ let n = ap (λ (z : LockKey × Lock). z.0.1) q in omega (arith, n)
            | inr l ↦ let n = least_first file e.0.0 e.0.1 t b.0 l in omega (arith, n)
          ]),
    )

pub nothing_blocks : (old : Records) (txn : ℕ) (file : List ℕ) (mode : Mode) → blocker old.locks file txn mode ≡ None → (t : ℕ) → ¬ Blocks old txn file mode t
nothing_blocks old txn file mode h t k =
    let x = blocking_entry old txn file mode t k in
    none-Has (blocks file txn mode) (fin.entries old.locks) (map-none (λ (e : LockKey × Lock). e.0.1) (find (blocks file txn mode) (fin.entries old.locks)) h) ((file, t), k.lock) x.0 x.1

-- ---- locks that writes want

exclusive_is : (mode : Mode) → is_exclusive mode ≡ true → mode ≡ Exclusive
exclusive_is Exclusive h = refl
exclusive_is Shared h = absurd (false≢true h)

pub holds_is : (old : Records) (txn : ℕ) (file : List ℕ) → holds_exclusively old txn file ≡ true → Holds old txn file Exclusive
holds_is old txn file = by (fin.get old.locks (file, txn)) refl
  where
    by : (o : Option Lock) → fin.get old.locks (file, txn) ≡ o → option_map_or (λ (lock : Lock). is_exclusive lock.mode) o false ≡ true → Holds old txn file Exclusive
    by None e h = absurd (false≢true h)
    by (Some lock) e h = (lock, e, exclusive_is lock.mode h)

holds_not : (old : Records) (txn : ℕ) (file : List ℕ) → holds_exclusively old txn file ≡ false → ¬ Holds old txn file Exclusive
holds_not old txn file h k =
    true≢false (ap is_exclusive (sym k.2) ∙ ap (λ (o : Option Lock). option_map_or (λ (lock : Lock). is_exclusive lock.mode) o false) (sym k.1) ∙ h)

all_held : (old : Records) (txn : ℕ) (writes : List Write) → AllByRecursion (λ (w : Write). not (holds_exclusively old txn w.file) ≡ false) writes → AllByRecursion (λ w. Holds old txn w.file Exclusive) writes
all_held old txn writes = all-map (λ (w : Write). not (holds_exclusively old txn w.file) ≡ false) (λ w. Holds old txn w.file Exclusive) writes
    (λ w h. holds_is old txn w.file (not-false (holds_exclusively old txn w.file) h))

-- ---- verdicts

pub cites_is : (verdict : Verdict) (server number : ℕ) → cites_vote verdict server number ≡ true → Cites verdict server number
cites_is Abort server number h = absurd (false≢true h)
cites_is (Commit votes) server number h =
    let f = any-Has (λ (vote : CitedVote). vote.server == server && vote.number == number) votes h in
    let p = and_parts ((f.0).server == server) ((f.0).number == number) f.2 in
    let s = eqb-true (f.0).server server p.0 in
    let n = eqb-true (f.0).number number p.1 in
    let is : f.0 ≡ record { server = server; number = number } = λ i. record { server = s i; number = n i } in
    subst (λ (vote : CitedVote). Has votes vote) is f.1

pub cites_not : (verdict : Verdict) (server number : ℕ) → cites_vote verdict server number ≡ false → ¬ Cites verdict server number
cites_not Abort server number h k = k
cites_not (Commit votes) server number h k =
    true≢false (sym (Has-any (λ (vote : CitedVote). vote.server == server && vote.number == number) votes (record { server = server; number = number }) k
    (and_from (server == server) (number == number) (eq-eqb server server refl) (eq-eqb number number refl))) ∙ h)

-- ---- each ask

-- the step, given what it is refused for
abbrev StepAt : ℕ → List Record → Records → ℕ → NodeAsk → Option NodeRefusal → Type 0
StepAt server list old number ask reason = IsStep server list old number ask (answer_at reason (reply_of server old ask)) (state_at reason old (records_after server (record { records = old; stable = list }) number ask))

step_lock : (server : ℕ) (list : List Record) (old : Records) (number txn : ℕ) (file : List ℕ) (mode : Mode) → StepAt server list old number (Work (work.Lock mode txn file)) (work_refusal old (work.Lock mode txn file))
step_lock server list old number txn file mode =
    let P = StepAt server list old number (Work (work.Lock mode txn file)) in
    by_test P old.down refusals.Down _ (λ down. (down, refl)) (λ up.
    by_test P (has_vote old txn) refusals.Prepared _ (λ vote. ((up, vote), refl)) (λ no_vote.
    by_value P (blocker old.locks file txn mode) refusals.Held None
    (λ by e. let b = blocker_is old txn file mode by e in ((up, none_of (fin.get old.votes txn) no_vote, b.0, b.1), refl))
    (λ e. (up, none_of (fin.get old.votes txn) no_vote, nothing_blocks old txn file mode e, refl, refl))))

step_prepare : (server : ℕ) (list : List Record) (old : Records) (number txn : ℕ) (writes : List Write) → StepAt server list old number (Work (work.Prepare txn writes)) (work_refusal old (work.Prepare txn writes))
step_prepare server list old number txn writes =
    let P = StepAt server list old number (Work (work.Prepare txn writes)) in
    let test = λ (w : Write). not (holds_exclusively old txn w.file) in
    by_test P old.down refusals.Down _ (λ down. (down, refl)) (λ up.
    by_test P (has_vote old txn) refusals.Prepared _ (λ vote. ((up, vote), refl)) (λ no_vote.
    let none = none_of (fin.get old.votes txn) no_vote in
    by_test P (not (are_good_writes writes)) refusals.BadWrites _ (λ bad. ((up, none, not-true (are_good_writes writes) bad), refl)) (λ good.
    let is_good = not-false (are_good_writes writes) good in
    by_value P (not_locked old txn writes) refusals.NotLocked _
    (λ file e.
    let m = map-some (λ (w : Write). w.file) (find test writes) file e in
    let f = find-first test writes m.0 m.1 in (
      (
        up,
        none,
        is_good,
        (
          f.before,
          m.0,
          f.after,
          f.parts,
          m.2,
          all_held old txn f.before f.fail,
          subst (λ (name : List ℕ). ¬ Holds old txn name Exclusive) m.2 (holds_not old txn (m.0).file (not-true (holds_exclusively old txn (m.0).file) f.passes)),
        ),
      ),
      refl,
    ))
    (λ e.
    let held = all_held old txn writes (find-none test writes (map-none (λ (w : Write). w.file) (find test writes) e)) in
    by_test P (holds_nothing old.locks txn) refusals.NothingHere None
    (λ nothing. ((up, none, is_good, held, nothing_there (held_of old.locks txn) nothing), refl))
    (λ some. (up, none, is_good, held, something_there (held_of old.locks txn) some, refl, refl, refl))))))

step_decide : (server : ℕ) (list : List Record) (old : Records) (number txn : ℕ) (verdict : Verdict) (cite : ℕ) → StepAt server list old number (Work (work.Decide txn verdict cite)) (work_refusal old (work.Decide txn verdict cite))
step_decide server list old number txn verdict cite =
    let P = StepAt server list old number (Work (work.Decide txn verdict cite)) in
    by_test P old.down refusals.Down _ (λ down. (down, refl)) (λ up.
    by_test P (not (has_vote old txn)) refusals.NothingHere None (λ none. ((up, absent (fin.get old.votes txn) none), refl)) (λ some.
    let v = some_of (fin.get old.votes txn) some in
    let is : open_vote old txn ≡ v.0 = ap (λ (o : Option OpenVote). option_map_or (λ vote. vote) o (record { number = 0; writes = []; locks = [] })) v.1 in
    by up (v.1 ∙ ap (λ (vote : OpenVote). Some vote) (sym is)) (installs server old txn verdict) refl))
  where
    by : IsUp old → fin.get old.votes txn ≡ Some (open_vote old txn) → (b : Bool) → installs server old txn verdict ≡ b
        → IsStep server list old number (Work (work.Decide txn verdict cite)) (cond b replies.Installed replies.Discarded)
        (record { copies = cond b (installed_all old.copies (open_vote old txn).writes) old.copies; locks = locks_after_release old.locks txn; votes = fin.remove old.votes txn; down = old.down })
    by up is_open true e = (up, (open_vote old txn, is_open, cites_is verdict server (open_vote old txn).number e, refl))
    by up is_open false e = (up, (open_vote old txn, is_open, cites_not verdict server (open_vote old txn).number e, refl))

step_release : (server : ℕ) (list : List Record) (old : Records) (number txn : ℕ) → StepAt server list old number (Work (work.Release txn)) (work_refusal old (work.Release txn))
step_release server list old number txn =
    let P = StepAt server list old number (Work (work.Release txn)) in
    by_test P old.down refusals.Down _ (λ down. (down, refl)) (λ up.
    by_test P (has_vote old txn) refusals.Prepared _ (λ vote. ((up, vote), refl)) (λ no_vote.
    let none = none_of (fin.get old.votes txn) no_vote in
    by_test P (holds_nothing old.locks txn) refusals.NothingHere None
    (λ nothing. ((up, none, nothing_there (held_of old.locks txn) nothing), refl))
    (λ some. (up, none, something_there (held_of old.locks txn) some, refl))))

step_work : (server : ℕ) (list : List Record) (old : Records) (number : ℕ) (ask : WorkAsk) → StepAt server list old number (Work ask) (work_refusal old ask)
step_work server list old number (work.Lock mode txn file) = step_lock server list old number txn file mode
step_work server list old number (work.Prepare txn writes) = step_prepare server list old number txn writes
step_work server list old number (work.Decide txn verdict cite) = step_decide server list old number txn verdict cite
step_work server list old number (work.Release txn) = step_release server list old number txn
step_work server list old number (work.Peek file) =
    by_test (StepAt server list old number (Work (work.Peek file))) old.down refusals.Down None (λ down. (down, refl)) (λ up. (up, refl, refl))
step_work server list old number (work.Refresh file version content from) =
    let P = StepAt server list old number (Work (work.Refresh file version content from)) in
    let there = (copy_of old.copies file).version in
    by_test P old.down refusals.Down _ (λ down. (down, refl)) (λ up.
    by_test P (nat_le version there) refusals.NotNewer None
    (λ low. ((up, leb-true version there low), refl))
    (λ high. (up, leb-false version there high, refl)))

pub step : (server : ℕ) (list : List Record) (old : Records) (number : ℕ) (ask : NodeAsk) → StepAt server list old number ask (refusal old ask)
step server list old number (Work ask) = step_work server list old number ask
step server list old number Crash = by_test (StepAt server list old number Crash) old.down refusals.AlreadyDown None (λ down. (down, refl)) (λ up. (up, refl))
step server list old number Return = by_test (StepAt server list old number Return) (not old.down) refusals.AlreadyUp None (λ up. (not-true old.down up, refl)) (λ down. (not-false old.down down, refl))
step server list old number (CrashIn after ask) = by_test (StepAt server list old number (CrashIn after ask)) old.down refusals.AlreadyDown None (λ down. (down, refl)) (λ up. (up, refl))

pub state_at-records : (reason : Option NodeRefusal) (old new : NodeState) → (state_at reason old new).records ≡ state_at reason old.records new.records
state_at-records None old new = refl
state_at-records (Some r) old new = refl

-- what a server replies and its records after are a step
pub node_step : (server : ℕ) (old : NodeState) (number : ℕ) (ask : NodeAsk) → IsStep server old.stable old.records number ask (node_reply server old ask) (node_after server old number ask).records
node_step server old number ask =
    subst (λ (new : Records). IsStep server old.stable old.records number ask (node_reply server old ask) new)
    (sym (state_at-records (refusal old.records ask) old (record { records = records_after server old number ask; stable = old.stable ++ Rattle.tq_node.specs.Records.writes_of server old.records number ask })))
    (step server old.stable old.records number ask)

-- the same of a call's result, by what it told
pub told_step : (old new : NodeView) (number : ℕ) (ask : NodeAsk) (told : Result NodeReply AllocError) → IfOk told (λ reply. reply ≡ node_reply old.server old.state ask) → OnOk told (new ≡ server_after old number ask)
    → IfOk told (λ reply. IsStep old.server old.state.stable old.state.records number ask reply new.state.records)
told_step old new number ask (Err e) r s = tt
told_step old new number ask (Ok reply) r s =
    subst (λ (x : NodeReply). IsStep old.server old.state.stable old.state.records number ask x new.state.records) (sym r)
    (subst (λ (x : NodeView). IsStep old.server old.state.stable old.state.records number ask (node_reply old.server old.state ask) x.state.records) (sym s) (node_step old.server old.state number ask))

-- records that some list keeps are down with stable locks alone, so by what the stable list keeps they are its own
stopped_is : (new : NodeState) (list : List Record) → new.records ≡ kept_records list → IsKept new → new.records ≡ kept_records new.stable
stopped_is new list is k =
    let locks = ap (λ (r : Records). r.locks) is ∙ kept_locks-stable list ∙ sym (ap (λ (r : Records). only_stable r.locks) is) in
    let down = ap (λ (r : Records). r.down) is in
    let same : new.records ≡ record { copies = new.records.copies; locks = only_stable new.records.locks; votes = new.records.votes; down = true } =
    λ i. record { copies = new.records.copies; locks = locks i; votes = new.records.votes; down = down i } in
    same ∙ sym k

-- after a crash the records are those that the stable list keeps
pub crashed_is : (server : ℕ) (old new : NodeState) (number : ℕ) (ask : NodeAsk) → IsStep server old.stable old.records number ask replies.Crashed new.records → IsKept new → new.records ≡ kept_records new.stable
crashed_is server old new number (Work (work.Lock m t f)) h k = absurd h
crashed_is server old new number (Work (work.Prepare t w)) h k = absurd h
crashed_is server old new number (Work (work.Decide t v c)) h k = absurd h
crashed_is server old new number (Work (work.Release t)) h k = absurd h
crashed_is server old new number (Work (work.Peek f)) h k = absurd h
crashed_is server old new number (Work (work.Refresh f v c g)) h k = absurd h
crashed_is server old new number Return h k = absurd h
crashed_is server old new number (CrashIn after ask) h k = stopped_is new (old.stable ++ stop_writes server old.records number ask after) h.1 k
crashed_is server old new number Crash h k =
    let p = h.1 in
    let locks = ap (λ (r : Records). r.locks) p ∙ sym (only_stable-twice old.records.locks) ∙ sym (ap (λ (r : Records). only_stable r.locks) p) in
    let down = ap (λ (r : Records). r.down) p in
    let is : new.records ≡ record { copies = new.records.copies; locks = only_stable new.records.locks; votes = new.records.votes; down = true } =
    λ i. record { copies = new.records.copies; locks = locks i; votes = new.records.votes; down = down i } in
    is ∙ sym k

pub told_crash : (server : ℕ) (old new : NodeState) (number : ℕ) (ask : NodeAsk) (told : Result NodeReply AllocError) → IfOk told (λ reply. IsStep server old.stable old.records number ask reply new.records) → IsKept new
    → told ≡ Ok replies.Crashed → new.records ≡ kept_records new.stable
told_crash server old new number ask (Err e) h k q = absurd cc
told_crash server old new number ask (Ok reply) h k q =
    let is : reply ≡ replies.Crashed = cc in
    crashed_is server old new number ask (subst (λ (x : NodeReply). IsStep server old.stable old.records number ask x new.records) is h) k
