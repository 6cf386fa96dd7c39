-- A step by the cases is the one that the server makes: the cases leave nothing open.
use Rattle.std.specs.{Prelude.{not, nat_le, IfOk, OnOk, Ok, Err, Result}, List.{AllByRecursion, find}}
use Rattle.std.specs.{Option.{option_map, option_map_or, is_some}, declared.alloc.AllocError.AllocError}
use Rattle.std.proofs.Common.{◌≡◌, ℕ, ◌≤◌, Bool, true, false, cond, List, [], ◌∷◌, ◌++◌, Option, Some, None, refl, sym, ap, ◌∙◌, inl, inr, arith}
use Rattle.std.proofs.lemmas.Bool.{cases_Bool, cond-true, cond-false, le-leb, lt-leb}
use Rattle.std.specs.FinMap as fin
use Rattle.tq_store.specs.{Copies.{copy_of, installed_all}, declared.{copies.FileCopy.FileCopy, write.Write.Write}}
use Rattle.tq_locks.specs.Locks.{is_exclusive, blocker, locks_after_grant, held_of, holds_nothing, locks_after_release}
use Rattle.tq_locks.specs.declared.mode.{Lock.Lock, Mode.Mode, Mode.TheVariants.Exclusive}
use Rattle.tq_shape.specs.Journal.{is_empty, refuse, refuse_for, state_at}
use Rattle.tq_intents.specs.declared.record.{OpenVote.OpenVote, Record.Record}
use Rattle.tq_asks.specs.declared.ask.{CitedVote.CitedVote, NodeAsk.NodeAsk, NodeRefusal.NodeRefusal, Verdict.Verdict}
use Rattle.tq_asks.specs.declared.ask.{NodeAsk.TheVariants.{Work, Crash, Return, CrashIn}, NodeReply.NodeReply}
use Rattle.tq_asks.specs.declared.ask.NodeReply.TheVariants.{Granted, Yes, Installed, Discarded, Released, Copy, Refreshed, Crashed, Returned, Refused}
use Rattle.tq_asks.specs.Verdicts.{cites_vote}
use Rattle.tq_asks.specs.declared.ask.NodeRefusal.TheVariants as refusals
use Rattle.tq_asks.specs.declared.ask.WorkAsk.TheVariants as work
use Rattle.tq_node.specs.{Cases.{IsOnlyStep, IsStep, Holds, Blocks, Cites}, Node.{NodeView, server_after}}
use Rattle.tq_node.specs.Records.{Records, has_vote, holds_exclusively, not_locked, are_good_writes, refusal, open_vote, installs, reply_of, records_after, writes_of, answer_at, node_reply}
use Rattle.tq_node.proofs.ByCases.{blocker_is, nothing_blocks, holds_is, cites_is, cites_not, state_at-records}

-- ---- one refusal after another

test-true : (b : Bool) (reason : NodeRefusal) (next : Option NodeRefusal) → b ≡ true → refuse b reason next ≡ Some reason
test-true b reason next e = cond-true b (Some reason) next e

test-false : (b : Bool) (reason : NodeRefusal) (next : Option NodeRefusal) → b ≡ false → refuse b reason next ≡ next
test-false b reason next e = cond-false b (Some reason) next e

value-some : {A : Type 0} (o : Option A) (reason : A → NodeRefusal) (next : Option NodeRefusal) (x : A) → o ≡ Some x → refuse_for o reason next ≡ Some (reason x)
value-some o reason next x e = ap (λ (v : Option _). refuse_for v reason next) e

value-none : {A : Type 0} (o : Option A) (reason : A → NodeRefusal) (next : Option NodeRefusal) → o ≡ None → refuse_for o reason next ≡ next
value-none o reason next e = ap (λ (v : Option _). refuse_for v reason next) e

-- ---- lists

find-parts : {A : Type 0} (p : A → Bool) (before : List A) (x : A) (after : List A) → AllByRecursion (λ y. p y ≡ false) before → p x ≡ true → find p (before ++ x ∷ after) ≡ Some x
find-parts p [] x after f t = cond-true (p x) (Some x) (find p after) t
find-parts p (y ∷ before) x after f t = cond-false (p y) (Some y) (find p (before ++ x ∷ after)) f.0 ∙ find-parts p before x after f.1 t

find-nowhere : {A : Type 0} (p : A → Bool) (xs : List A) → AllByRecursion (λ y. p y ≡ false) xs → find p xs ≡ None
find-nowhere p [] f = refl
find-nowhere p (y ∷ ys) f = cond-false (p y) (Some y) (find p ys) f.0 ∙ find-nowhere p ys f.1

all-map : {A : Type 0} (P Q : A → Type 0) (xs : List A) → ((x : A) → P x → Q x) → AllByRecursion P xs → AllByRecursion Q xs
all-map P Q [] f h = tt
all-map P Q (x ∷ xs) f h = (f x h.0, all-map P Q xs f h.1)

not_empty : {A : Type 0} (xs : List A) → (xs ≡ [] → ⊥) → is_empty xs ≡ false
not_empty [] h = absurd (h refl)
not_empty (x ∷ xs) h = refl

-- ---- what the conditions say of the tests

blocker_of : (old : Records) (txn : ℕ) (file : List ℕ) (mode : Mode) (by : ℕ) → Blocks old txn file mode by → ((t : ℕ) → Blocks old txn file mode t → by ≤ t) → blocker old.locks file txn mode ≡ Some by
blocker_of old txn file mode by h least = at (blocker old.locks file txn mode) refl
  where
    at : (o : Option ℕ) → blocker old.locks file txn mode ≡ o → o ≡ Some by
    at None e = absurd (nothing_blocks old txn file mode e by h)
    at (Some t) e =
        let b = blocker_is old txn file mode t e in
        let same : t ≡ by = omega (arith, b.1 by h, least t b.0) in
        ap (λ (n : ℕ). Some n) same

nobody : (old : Records) (txn : ℕ) (file : List ℕ) (mode : Mode) → ((t : ℕ) → ¬ Blocks old txn file mode t) → blocker old.locks file txn mode ≡ None
nobody old txn file mode none = at (blocker old.locks file txn mode) refl
  where
    at : (o : Option ℕ) → blocker old.locks file txn mode ≡ o → o ≡ None
    at None e = refl
    at (Some t) e = absurd (none t (blocker_is old txn file mode t e).0)

is_held : (old : Records) (txn : ℕ) (file : List ℕ) → Holds old txn file Exclusive → not (holds_exclusively old txn file) ≡ false
is_held old txn file h =
    ap not (ap (λ (o : Option Lock). option_map_or (λ (lock : Lock). is_exclusive lock.mode) o false) h.1 ∙ ap is_exclusive h.2)

isnt_held : (old : Records) (txn : ℕ) (file : List ℕ) → ¬ Holds old txn file Exclusive → not (holds_exclusively old txn file) ≡ true
isnt_held old txn file h =
    elim (cases_Bool (holds_exclusively old txn file)) [
      | inl t ↦ absurd (h (holds_is old txn file t))
      | inr f ↦ ap not f
    ]

first_not_locked : (old : Records) (txn : ℕ) (writes before : List Write) (write : Write) (after : List Write) (file : List ℕ) → writes ≡ before ++ write ∷ after → write.file ≡ file
    → AllByRecursion (λ w. Holds old txn w.file Exclusive) before → ¬ Holds old txn file Exclusive → not_locked old txn writes ≡ Some file
first_not_locked old txn writes before write after file parts is held free =
    let test = λ (w : Write). not (holds_exclusively old txn w.file) in
    ap (λ (ws : List Write). not_locked old txn ws) parts
    ∙ ap (option_map (λ (w : Write). w.file)) (find-parts test before write after
    (all-map (λ w. Holds old txn w.file Exclusive) (λ w. not (holds_exclusively old txn w.file) ≡ false) before (λ w h. is_held old txn w.file h) held)
    (ap (λ (name : List ℕ). not (holds_exclusively old txn name)) is ∙ isnt_held old txn file free))
    ∙ ap (λ (name : List ℕ). Some name) is

all_locked : (old : Records) (txn : ℕ) (writes : List Write) → AllByRecursion (λ w. Holds old txn w.file Exclusive) writes → not_locked old txn writes ≡ None
all_locked old txn writes held =
    ap (option_map (λ (w : Write). w.file)) (find-nowhere (λ (w : Write). not (holds_exclusively old txn w.file)) writes
    (all-map (λ w. Holds old txn w.file Exclusive) (λ w. not (holds_exclusively old txn w.file) ≡ false) writes (λ w h. is_held old txn w.file h) held))

open_vote-is : (old : Records) (txn : ℕ) (vote : OpenVote) → fin.get old.votes txn ≡ Some vote → open_vote old txn ≡ vote
open_vote-is old txn vote h = ap (λ (o : Option OpenVote). option_map_or (λ vote. vote) o (record { number = 0; writes = []; locks = [] })) h

does_install : (server : ℕ) (old : Records) (txn : ℕ) (verdict : Verdict) (vote : OpenVote) → fin.get old.votes txn ≡ Some vote → Cites verdict server vote.number → installs server old txn verdict ≡ true
does_install server old txn verdict vote is cites =
    elim (cases_Bool (installs server old txn verdict)) [
      | inl t ↦ t
      | inr f ↦ absurd (cites_not verdict server vote.number (ap (λ (v : OpenVote). cites_vote verdict server v.number) (sym (open_vote-is old txn vote is)) ∙ f) cites)
    ]

doesnt_install : (server : ℕ) (old : Records) (txn : ℕ) (verdict : Verdict) (vote : OpenVote) → fin.get old.votes txn ≡ Some vote → ¬ Cites verdict server vote.number → installs server old txn verdict ≡ false
doesnt_install server old txn verdict vote is cites =
    elim (cases_Bool (installs server old txn verdict)) [
      | inl t ↦ absurd (cites (cites_is verdict server vote.number (ap (λ (v : OpenVote). cites_vote verdict server v.number) (sym (open_vote-is old txn vote is)) ∙ t)))
      | inr f ↦ f
    ]

-- ---- each ask

-- the server's own step
abbrev IsOwn : ℕ → List Record → Records → ℕ → NodeAsk → NodeReply → Records → Type 0
IsOwn server list old number ask reply new =
    (reply ≡ answer_at (refusal old ask) (reply_of server old ask)) × (new ≡ state_at (refusal old ask) old (records_after server (record { records = old; stable = list }) number ask))

own-refused : (server : ℕ) (list : List Record) (old : Records) (number : ℕ) (ask : NodeAsk) (reason : NodeRefusal) (new : Records) → refusal old ask ≡ Some reason → new ≡ old → IsOwn server list old number ask (Refused reason) new
own-refused server list old number ask reason new e n =
    (sym (ap (λ (o : Option NodeRefusal). answer_at o (reply_of server old ask)) e), n ∙ sym (ap (λ (o : Option NodeRefusal). state_at o old (records_after server (record { records = old; stable = list }) number ask)) e))

own-answered : (server : ℕ) (list : List Record) (old : Records) (number : ℕ) (ask : NodeAsk) (reply : NodeReply) (new : Records) → refusal old ask ≡ None → reply ≡ reply_of server old ask → new ≡ records_after server (record { records = old; stable = list }) number ask → IsOwn server list old number ask reply new
own-answered server list old number ask reply new e r n =
    (r ∙ sym (ap (λ (o : Option NodeRefusal). answer_at o (reply_of server old ask)) e), n ∙ sym (ap (λ (o : Option NodeRefusal). state_at o old (records_after server (record { records = old; stable = list }) number ask)) e))

only_lock : (server : ℕ) (list : List Record) (old : Records) (number txn : ℕ) (file : List ℕ) (mode : Mode) (reply : NodeReply) (new : Records) → IsStep server list old number (Work (work.Lock mode txn file)) reply new → IsOwn server list old number (Work (work.Lock mode txn file)) reply new
only_lock server list old number txn file mode (Refused refusals.Down) new h =
    own-refused server list old number (Work (work.Lock mode txn file)) refusals.Down new (test-true old.down refusals.Down _ h.0) h.1
only_lock server list old number txn file mode (Refused refusals.Prepared) new h =
    own-refused server list old number (Work (work.Lock mode txn file)) refusals.Prepared new (test-false old.down refusals.Down _ h.0.0 ∙ test-true (has_vote old txn) refusals.Prepared _ h.0.1) h.1
only_lock server list old number txn file mode (Refused (refusals.Held by)) new h =
    own-refused server list old number (Work (work.Lock mode txn file)) (refusals.Held by) new
    (test-false old.down refusals.Down _ h.0.0 ∙ test-false (has_vote old txn) refusals.Prepared _ (ap is_some h.0.1) ∙ value-some (blocker old.locks file txn mode) refusals.Held None by (blocker_of old txn file mode by h.0.2 h.0.3)) h.1
only_lock server list old number txn file mode (Refused reason) new h = absurd h.0
only_lock server list old number txn file mode (Granted version content) new h =
    own-answered server list old number (Work (work.Lock mode txn file)) (Granted version content) new
    (test-false old.down refusals.Down _ h.0 ∙ test-false (has_vote old txn) refusals.Prepared _ (ap is_some h.1) ∙ value-none (blocker old.locks file txn mode) refusals.Held None (nobody old txn file mode h.2))
    (ap (λ (copy : FileCopy). Granted copy.version copy.content) (sym h.3))
    (h.4 ∙ ap (λ (copy : FileCopy). record { copies = old.copies; locks = locks_after_grant old.locks file txn mode number copy.version; votes = old.votes; down = old.down }) (sym h.3))
only_lock server list old number txn file mode reply new h = absurd h

only_prepare : (server : ℕ) (list : List Record) (old : Records) (number txn : ℕ) (writes : List Write) (reply : NodeReply) (new : Records) → IsStep server list old number (Work (work.Prepare txn writes)) reply new → IsOwn server list old number (Work (work.Prepare txn writes)) reply new
only_prepare server list old number txn writes (Refused refusals.Down) new h =
    own-refused server list old number (Work (work.Prepare txn writes)) refusals.Down new (test-true old.down refusals.Down _ h.0) h.1
only_prepare server list old number txn writes (Refused refusals.Prepared) new h =
    own-refused server list old number (Work (work.Prepare txn writes)) refusals.Prepared new (test-false old.down refusals.Down _ h.0.0 ∙ test-true (has_vote old txn) refusals.Prepared _ h.0.1) h.1
only_prepare server list old number txn writes (Refused refusals.BadWrites) new h =
    own-refused server list old number (Work (work.Prepare txn writes)) refusals.BadWrites new
    (test-false old.down refusals.Down _ h.0.0 ∙ test-false (has_vote old txn) refusals.Prepared _ (ap is_some h.0.1) ∙ test-true (not (are_good_writes writes)) refusals.BadWrites _ (ap not h.0.2)) h.1
only_prepare server list old number txn writes (Refused (refusals.NotLocked file)) new h =
    let found = h.0.3 in
    own-refused server list old number (Work (work.Prepare txn writes)) (refusals.NotLocked file) new
    (test-false old.down refusals.Down _ h.0.0 ∙ test-false (has_vote old txn) refusals.Prepared _ (ap is_some h.0.1) ∙ test-false (not (are_good_writes writes)) refusals.BadWrites _ (ap not h.0.2)
    ∙ value-some (not_locked old txn writes) refusals.NotLocked _ file (first_not_locked old txn writes found.0 found.1 found.2 file found.3 found.4 found.5 found.6)) h.1
only_prepare server list old number txn writes (Refused refusals.NothingHere) new h =
    own-refused server list old number (Work (work.Prepare txn writes)) refusals.NothingHere new
    (test-false old.down refusals.Down _ h.0.0 ∙ test-false (has_vote old txn) refusals.Prepared _ (ap is_some h.0.1) ∙ test-false (not (are_good_writes writes)) refusals.BadWrites _ (ap not h.0.2)
    ∙ value-none (not_locked old txn writes) refusals.NotLocked _ (all_locked old txn writes h.0.3) ∙ test-true (holds_nothing old.locks txn) refusals.NothingHere None (ap is_empty h.0.4)) h.1
only_prepare server list old number txn writes (Refused reason) new h = absurd h.0
only_prepare server list old number txn writes (Yes held given) new h =
    own-answered server list old number (Work (work.Prepare txn writes)) (Yes held given) new
    (test-false old.down refusals.Down _ h.0 ∙ test-false (has_vote old txn) refusals.Prepared _ (ap is_some h.1) ∙ test-false (not (are_good_writes writes)) refusals.BadWrites _ (ap not h.2)
    ∙ value-none (not_locked old txn writes) refusals.NotLocked _ (all_locked old txn writes h.3) ∙ test-false (holds_nothing old.locks txn) refusals.NothingHere None (not_empty (held_of old.locks txn) h.4))
    (let p = h.5 in let q = h.6 in λ i. Yes (p i) (q i))
    h.7
only_prepare server list old number txn writes reply new h = absurd h

only_decide : (server : ℕ) (list : List Record) (old : Records) (number txn : ℕ) (verdict : Verdict) (cite : ℕ) (reply : NodeReply) (new : Records) → IsStep server list old number (Work (work.Decide txn verdict cite)) reply new → IsOwn server list old number (Work (work.Decide txn verdict cite)) reply new
only_decide server list old number txn verdict cite (Refused refusals.Down) new h =
    own-refused server list old number (Work (work.Decide txn verdict cite)) refusals.Down new (test-true old.down refusals.Down _ h.0) h.1
only_decide server list old number txn verdict cite (Refused refusals.NothingHere) new h =
    own-refused server list old number (Work (work.Decide txn verdict cite)) refusals.NothingHere new
    (test-false old.down refusals.Down _ h.0.0 ∙ test-true (not (has_vote old txn)) refusals.NothingHere None (ap (λ (o : Option OpenVote). not (is_some o)) h.0.1)) h.1
only_decide server list old number txn verdict cite (Refused reason) new h = absurd h.0
only_decide server list old number txn verdict cite Installed new h =
    let vote = h.1.0 in
    let is = h.1.1 in
    let b = does_install server old txn verdict vote is h.1.2 in
    own-answered server list old number (Work (work.Decide txn verdict cite)) Installed new
    (test-false old.down refusals.Down _ h.0 ∙ test-false (not (has_vote old txn)) refusals.NothingHere None (ap (λ (o : Option OpenVote). not (is_some o)) is))
    (sym (cond-true (installs server old txn verdict) Installed Discarded b))
    (h.1.3
    ∙ ap (λ (v : OpenVote). record { copies = installed_all old.copies v.writes; locks = locks_after_release old.locks txn; votes = fin.remove old.votes txn; down = old.down }) (sym (open_vote-is old txn vote is))
    ∙ ap (λ (t : Bool). record { copies = cond t (installed_all old.copies (open_vote old txn).writes) old.copies; locks = locks_after_release old.locks txn; votes = fin.remove old.votes txn; down = old.down }) (sym b))
only_decide server list old number txn verdict cite Discarded new h =
    let vote = h.1.0 in
    let is = h.1.1 in
    let b = doesnt_install server old txn verdict vote is h.1.2 in
    own-answered server list old number (Work (work.Decide txn verdict cite)) Discarded new
    (test-false old.down refusals.Down _ h.0 ∙ test-false (not (has_vote old txn)) refusals.NothingHere None (ap (λ (o : Option OpenVote). not (is_some o)) is))
    (sym (cond-false (installs server old txn verdict) Installed Discarded b))
    (h.1.3
    ∙ ap (λ (t : Bool). record { copies = cond t (installed_all old.copies (open_vote old txn).writes) old.copies; locks = locks_after_release old.locks txn; votes = fin.remove old.votes txn; down = old.down }) (sym b))
only_decide server list old number txn verdict cite reply new h = absurd h

only_release : (server : ℕ) (list : List Record) (old : Records) (number txn : ℕ) (reply : NodeReply) (new : Records) → IsStep server list old number (Work (work.Release txn)) reply new → IsOwn server list old number (Work (work.Release txn)) reply new
only_release server list old number txn (Refused refusals.Down) new h =
    own-refused server list old number (Work (work.Release txn)) refusals.Down new (test-true old.down refusals.Down _ h.0) h.1
only_release server list old number txn (Refused refusals.Prepared) new h =
    own-refused server list old number (Work (work.Release txn)) refusals.Prepared new (test-false old.down refusals.Down _ h.0.0 ∙ test-true (has_vote old txn) refusals.Prepared _ h.0.1) h.1
only_release server list old number txn (Refused refusals.NothingHere) new h =
    own-refused server list old number (Work (work.Release txn)) refusals.NothingHere new
    (test-false old.down refusals.Down _ h.0.0 ∙ test-false (has_vote old txn) refusals.Prepared _ (ap is_some h.0.1) ∙ test-true (holds_nothing old.locks txn) refusals.NothingHere None (ap is_empty h.0.2)) h.1
only_release server list old number txn (Refused reason) new h = absurd h.0
only_release server list old number txn Released new h =
    own-answered server list old number (Work (work.Release txn)) Released new
    (test-false old.down refusals.Down _ h.0 ∙ test-false (has_vote old txn) refusals.Prepared _ (ap is_some h.1) ∙ test-false (holds_nothing old.locks txn) refusals.NothingHere None (not_empty (held_of old.locks txn) h.2))
    refl h.3
only_release server list old number txn reply new h = absurd h

only_peek : (server : ℕ) (list : List Record) (old : Records) (number : ℕ) (file : List ℕ) (reply : NodeReply) (new : Records) → IsStep server list old number (Work (work.Peek file)) reply new → IsOwn server list old number (Work (work.Peek file)) reply new
only_peek server list old number file (Refused refusals.Down) new h =
    own-refused server list old number (Work (work.Peek file)) refusals.Down new (test-true old.down refusals.Down None h.0) h.1
only_peek server list old number file (Refused reason) new h = absurd h.0
only_peek server list old number file (Copy version content) new h =
    own-answered server list old number (Work (work.Peek file)) (Copy version content) new
    (test-false old.down refusals.Down None h.0) (ap (λ (copy : FileCopy). Copy copy.version copy.content) (sym h.1)) h.2
only_peek server list old number file reply new h = absurd h

only_refresh : (server : ℕ) (list : List Record) (old : Records) (number : ℕ) (file : List ℕ) (version : ℕ) (content : List ℕ) (from : CitedVote) (reply : NodeReply) (new : Records) → IsStep server list old number (Work (work.Refresh file version content from)) reply new → IsOwn server list old number (Work (work.Refresh file version content from)) reply new
only_refresh server list old number file version content from (Refused refusals.Down) new h =
    own-refused server list old number (Work (work.Refresh file version content from)) refusals.Down new (test-true old.down refusals.Down _ h.0) h.1
only_refresh server list old number file version content from (Refused refusals.NotNewer) new h =
    own-refused server list old number (Work (work.Refresh file version content from)) refusals.NotNewer new
    (test-false old.down refusals.Down _ h.0.0 ∙ test-true (nat_le version (copy_of old.copies file).version) refusals.NotNewer None (le-leb version (copy_of old.copies file).version h.0.1)) h.1
only_refresh server list old number file version content from (Refused reason) new h = absurd h.0
only_refresh server list old number file version content from Refreshed new h =
    own-answered server list old number (Work (work.Refresh file version content from)) Refreshed new
    (test-false old.down refusals.Down _ h.0 ∙ test-false (nat_le version (copy_of old.copies file).version) refusals.NotNewer None (lt-leb version (copy_of old.copies file).version h.1))
    refl h.2
only_refresh server list old number file version content from reply new h = absurd h

pub only_step : (server : ℕ) (list : List Record) (old : Records) (number : ℕ) (ask : NodeAsk) (reply : NodeReply) (new : Records) → IsStep server list old number ask reply new → IsOwn server list old number ask reply new
only_step server list old number (Work (work.Lock mode txn file)) reply new h = only_lock server list old number txn file mode reply new h
only_step server list old number (Work (work.Prepare txn writes)) reply new h = only_prepare server list old number txn writes reply new h
only_step server list old number (Work (work.Decide txn verdict cite)) reply new h = only_decide server list old number txn verdict cite reply new h
only_step server list old number (Work (work.Release txn)) reply new h = only_release server list old number txn reply new h
only_step server list old number (Work (work.Peek file)) reply new h = only_peek server list old number file reply new h
only_step server list old number (Work (work.Refresh file version content from)) reply new h = only_refresh server list old number file version content from reply new h
only_step server list old number Crash (Refused refusals.AlreadyDown) new h = own-refused server list old number Crash refusals.AlreadyDown new (test-true old.down refusals.AlreadyDown None h.0) h.1
only_step server list old number Crash (Refused reason) new h = absurd h.0
only_step server list old number Crash Crashed new h = own-answered server list old number Crash Crashed new (test-false old.down refusals.AlreadyDown None h.0) refl h.1
only_step server list old number Crash reply new h = absurd h
only_step server list old number Return (Refused refusals.AlreadyUp) new h = own-refused server list old number Return refusals.AlreadyUp new (test-true (not old.down) refusals.AlreadyUp None (ap not h.0)) h.1
only_step server list old number Return (Refused reason) new h = absurd h.0
only_step server list old number Return Returned new h = own-answered server list old number Return Returned new (test-false (not old.down) refusals.AlreadyUp None (ap not h.0)) refl h.1
only_step server list old number Return reply new h = absurd h
only_step server list old number (CrashIn after ask) (Refused refusals.AlreadyDown) new h = own-refused server list old number (CrashIn after ask) refusals.AlreadyDown new (test-true old.down refusals.AlreadyDown None h.0) h.1
only_step server list old number (CrashIn after ask) (Refused reason) new h = absurd h.0
only_step server list old number (CrashIn after ask) Crashed new h = own-answered server list old number (CrashIn after ask) Crashed new (test-false old.down refusals.AlreadyDown None h.0) refl h.1
only_step server list old number (CrashIn after ask) reply new h = absurd h

-- a call's result, by what it told: no other reply and no other records are a step
pub told_only : (old new : NodeView) (number : ℕ) (ask : NodeAsk) (told : Result NodeReply AllocError) → IfOk told (λ reply. reply ≡ node_reply old.server old.state ask) → OnOk told (new ≡ server_after old number ask)
    → IfOk told (λ reply. IsOnlyStep old.server old.state.stable old.state.records number ask reply new.state.records)
told_only old new number ask (Err e) r s = tt
told_only old new number ask (Ok reply) r s = λ other after h.
    let own = only_step old.server old.state.stable old.state.records number ask other after h in (
      own.0 ∙ sym r,
      own.1
          ∙ sym (state_at-records (refusal old.state.records ask) old.state (record { records = records_after old.server old.state number ask; stable = old.state.stable ++ writes_of old.server old.state.records number ask }))
          ∙ ap (λ (v : NodeView). v.state.records) (sym s),
    )
