-- Locks at the servers of a quorum, kept as the grants that their answers tell of. Locks at servers one after another.
use Rattle.std.proofs.Common.{◌≡◌, ◌∙◌, ℕ, Bool, true, false, not, ◌&&◌, ◌||◌, cond, List, [], ◌∷◌, ◌++◌, Option, Some, None, Result, Ok, Err, refl, sym, ap, subst, append_assoc, append-nil}
use Rattle.std.proofs.lemmas.{Bool.and_from, List.map-append, List.Elements.{All-head, All-tail, All-push}}
use Rattle.std.specs.{List.{Contains, find, list_any}, Prelude.{IfOk, OnOk}}
use Rattle.tq_shape.{proofs.Options.map-none, specs.Tree.Server}
use Rattle.tq_store.specs.Names.{same_name}
use Rattle.tq_locks.specs.{Locks.is_exclusive, declared.mode.Mode.Mode, declared.mode.Mode.TheVariants.Exclusive}
use Rattle.tq_coterie.specs.Coterie.{coterie, is_quorum, numbers_of, IsMemberList}
use Rattle.tq_asks.specs.declared.ask.{NodeAsk.NodeAsk, NodeReply.NodeReply}
use Rattle.tq_asks.specs.declared.ask.NodeReply.TheVariants as replies
use Rattle.tq_evidence.specs.declared.{grant.Grant.Grant, op.Op.Op}
use Rattle.tq_evidence.specs.Evidence.{granters, is_exclusively_granted, is_write, writes_file}
use Rattle.tq_txn_states.specs.{declared.told.NodeTold.NodeTold, Voting.{answers_of, grant_told}}
use Rattle.tq_txn_states.specs.Open.{OpenView, IsTouched, has_all_ops, is_member, is_read_of, is_used, is_written, pending_content, op_read, touched_by, op_written}
use Rattle.tq_txn_states.proofs.{GoodGrants.{a_member, rise_too}, Searched.within-with_number}
use Rattle.tq_txn.specs.declared.{asker.Exchange.Exchange, fault.LineFault.LineFault, operations.WantedLock.WantedLock}
use Rattle.tq_txn.specs.Dialogue.{Follows, line_done, ended_by, node_line, Dialogue, LineEnd}
use Rattle.tq_txn.specs.Lines.{AreOf, LocksView, answers, grant_answer, lock_answer, lock_ask, lock_line, next_lock, IsLocking, IsLockAt, locks_line, locks_of}
use Rattle.tq_txn.specs.{Told.{Grown, answers_in, AreHeard}, declared.fault.LineFault.TheVariants.Memory}
use Rattle.tq_txn.proofs.LineLaws.{follows_answer, follows_end, follows_on, follows_memory, follows_off, locks_off, locks_on}
use Rattle.tq_txn.proofs.KnownLaws.{told_push, told_same, grown_along}

-- ---- a lock at a server

granted_is : (told : NodeTold) (reply : NodeReply) (answer : NodeTold) → lock_answer told reply ≡ Ok answer → told ≡ answer
granted_is told (replies.Granted version content) answer is = cc
granted_is told (replies.Refused refusal) answer is = cc
granted_is told reply answer is = cc

pub heard_at : (txn : ℕ) (file : List ℕ) (told : NodeTold) (result : Result (Grant × NodeAsk) LineFault) (new : List Exchange) → lock_answer told told.reply ≡ grant_answer txn file result → Contains (answers_in new) told → IfOk result (λ locked. Contains (answers_in new) (grant_told txn file locked.0))
heard_at txn file told (Ok locked) new is here = subst (Contains (answers_in new)) (granted_is told told.reply (grant_told txn file locked.0) is) here
heard_at txn file told (Err fault) new is here = tt

pub asked_lock : (txn : ℕ) (file : List ℕ) (mode : Mode) (server : ℕ) (told : NodeTold) (result : Result (Grant × NodeAsk) LineFault) (old new : List Exchange) → Follows (node_line server (lock_ask txn file mode)) old new (Some (record { answer = Ok told; after = tt })) → lock_answer told told.reply ≡ grant_answer txn file result → Follows (lock_line txn file mode server) old new (ended_by (grant_answer txn file result) tt)
asked_lock txn file mode server told result old new first is =
    let P : Result NodeTold LineFault → Type 0 = λ answer. Follows (lock_line txn file mode server) old new (ended_by answer tt) in
    subst P is (follows_on (node_line server (lock_ask txn file mode)) (λ none. none) (λ t none. answers (lock_answer t t.reply) none) told tt old new new (ended_by (lock_answer told told.reply) tt) first (follows_answer (lock_answer told told.reply) tt new))

-- ---- one server more

pub answers_push : (txn : ℕ) (file : List ℕ) (before after : List Grant) (grant : Grant) → after ≡ before ++ grant ∷ [] → answers_of txn file after ≡ answers_of txn file before ++ grant_told txn file grant ∷ []
answers_push txn file before after grant is = ap (answers_of txn file) is ∙ map-append (grant_told txn file) before (grant ∷ [])

pub granters_push : (before after : List Grant) (grant : Grant) (server : ℕ) → after ≡ before ++ grant ∷ [] → grant.server ≡ server → granters after ≡ granters before ++ server ∷ []
granters_push before after grant server is same = ap granters is ∙ map-append (λ (g : Grant). g.server) before (grant ∷ []) ∙ ap (λ number. granters before ++ number ∷ []) same

pub modes_push : (mode : Mode) (before after : List Grant) (grant : Grant) → after ≡ before ++ grant ∷ [] → grant.mode ≡ mode → AreOf mode before → AreOf mode after
modes_push mode before after grant is same all = subst (AreOf mode) (sym is) (All-push (λ (g : Grant). g.mode ≡ mode) before grant all same)

pub next_locked : (file : List ℕ) (mode : Mode) (server txn : ℕ) (old new : LocksView) (answer : NodeTold) (told mid : List Exchange) → txn ≡ old.txn.txn → new.answers ≡ old.answers ++ answer ∷ [] → new.txn ≡ touched_by old.txn server → Follows (lock_line txn file mode server) told mid (Some (record { answer = Ok answer; after = tt })) → Follows (next_lock file mode server old) told mid (Some (record { answer = Ok tt; after = new }))
next_locked file mode server txn old new answer told mid same more noted first =
    let made : LocksView = record { answers = old.answers ++ answer ∷ []; txn = touched_by old.txn server } in
    let is : made ≡ new = λ i. record { answers = sym more i; txn = sym noted i } in
    let P : ℕ → Type 0 = λ t. Follows (lock_line t file mode server) told mid (Some (record { answer = Ok answer; after = tt })) in
    let Q : LocksView → Type 0 = λ view. Follows (next_lock file mode server old) told mid (Some (record { answer = Ok tt; after = view })) in
    subst Q is (follows_on (lock_line old.txn.txn file mode server) (λ none. old) (λ t none. line_done tt (record { answers = old.answers ++ t ∷ []; txn = touched_by old.txn server })) answer tt told mid mid (Some (record { answer = Ok tt; after = made })) (subst P same first) (follows_end _ mid))

-- the servers that granted, with those that are left, are all
pub servers_left : (before after : List Grant) (server : Server) (all rest : List Server) → granters after ≡ granters before ++ server.number ∷ [] → all ≡ server ∷ rest → granters after ++ numbers_of rest ≡ granters before ++ numbers_of all
servers_left before after server all rest one is =
    ap (λ numbers. numbers ++ numbers_of rest) one ∙ append_assoc (granters before) (server.number ∷ []) (numbers_of rest) ∙ ap (λ servers. granters before ++ numbers_of servers) (sym is)

-- ---- a quorum

pub member_of : (levels tree : ℕ) (servers : List Server) (grants : List Grant) → IsMemberList tree servers → tree ≡ levels → granters grants ≡ numbers_of servers → is_member levels grants ≡ true
member_of levels tree servers grants is same granted =
    let P : ℕ → Type 0 = λ l. Contains (coterie l) (numbers_of servers) in
    sym (rise_too levels (granters grants)) ∙ ap (is_quorum levels) granted ∙ a_member levels (numbers_of servers) (subst P same is.member)

pub all_exclusive : (grants : List Grant) → AreOf Exclusive grants → is_exclusively_granted grants ≡ true
all_exclusive [] are = refl
all_exclusive (first ∷ rest) are =
    let P : Grant → Type 0 = λ grant. grant.mode ≡ Exclusive in
    and_from (is_exclusive first.mode) (is_exclusively_granted rest) (ap is_exclusive (All-head P first rest are)) (all_exclusive rest (All-tail P first rest are))

-- ---- what locks leave as it was

module _ (old new : OpenView) (kept : IsTouched old new) where
  pub still_unused : (file : List ℕ) → is_used old.ops file ≡ false → is_used new.ops file ≡ false
  still_unused file fresh = ap (λ ops. is_used ops file) kept.ops ∙ fresh

  pub still_unwritten : (file : List ℕ) → is_written old.ops file ≡ false → is_written new.ops file ≡ false
  still_unwritten file fresh = ap (λ ops. is_written ops file) kept.ops ∙ fresh

  pub still_few : has_all_ops old ≡ false → has_all_ops new ≡ false
  still_few few = (λ i. has_all_ops (record old { limits = kept.limits i; ops = kept.ops i })) ∙ few

  pub still_member : (grants : List Grant) → is_member old.levels grants ≡ true → is_member new.levels grants ≡ true
  still_member grants member = ap (λ levels. is_member levels grants) kept.levels ∙ member

  pub same_answers : (file : List ℕ) (grants : List Grant) → answers_of new.txn file grants ≡ answers_of old.txn file grants
  same_answers file grants = ap (λ txn. answers_of txn file grants) kept.txn

-- ---- no operation on the file yet

neither : (w same : Bool) → (not w && same) ≡ false → (w && same) ≡ false → same ≡ false
neither true same unread unwritten = unwritten
neither false same unread unwritten = unread

none_first : {X : Type 0} (b : Bool) (x : X) (rest : Option X) → cond b (Some x) rest ≡ None → (b ≡ false) × (rest ≡ None)
none_first true x rest is = cc
none_first false x rest is = (refl, is)

pub none_found : {X : Type 0} (test : X → Bool) (xs : List X) → find test xs ≡ None → list_any test xs ≡ false
none_found test [] none = refl
none_found test (x ∷ xs) none =
    let parts = none_first (test x) x (find test xs) none in
    ap (λ b. b || list_any test xs) parts.0 ∙ none_found test xs parts.1

unused_in : (file : List ℕ) (ops : List Op) → find (is_read_of file) ops ≡ None → find (writes_file file) ops ≡ None → is_used ops file ≡ false
unused_in file [] unread unwritten = refl
unused_in file (op ∷ ops) unread unwritten =
    let reads = none_first (is_read_of file op) op (find (is_read_of file) ops) unread in
    let writes = none_first (writes_file file op) op (find (writes_file file) ops) unwritten in
    ap (λ b. b || is_used ops file) (neither (is_write op) (same_name op.file file) reads.0 writes.0) ∙ unused_in file ops reads.1 writes.1

pub unused : (old : OpenView) (file : List ℕ) → pending_content old file ≡ None → op_read old file ≡ None → is_used old.ops file ≡ false
unused old file unwritten unread = unused_in file old.ops unread (map-none (λ (op : Op). op.content) (op_written old file) unwritten)

pub unwritten : (old : OpenView) (file : List ℕ) → op_written old file ≡ None → is_written old.ops file ≡ false
unwritten old file none = none_found (writes_file file) old.ops none

-- ---- locking laws

on_ok : {A E P Q : Type 0} (result : Result A E) → (P → Q) → OnOk result P → OnOk result Q
on_ok (Ok a) goes is = goes is
on_ok (Err fault) goes is = tt

-- ---- a transaction that notes more servers

pub touched_same : (old new : OpenView) → new ≡ old → IsTouched old new
touched_same old new is =
    subst (IsTouched old) (sym is) record { levels = refl; limits = refl; txn = refl; ops = refl; voters = refl; touched = λ server here. here }

pub touched_more : (old new : OpenView) (server : ℕ) → new ≡ touched_by old server → IsTouched old new
touched_more old new server is =
    subst (IsTouched old) (sym is) record { levels = refl; limits = refl; txn = refl; ops = refl; voters = refl; touched = within-with_number old.touched server }

pub touched_trans : (first second third : OpenView) → IsTouched first second → IsTouched second third → IsTouched first third
touched_trans first second third a b = record {
  levels = b.levels ∙ a.levels;
  limits = b.limits ∙ a.limits;
  txn = b.txn ∙ a.txn;
  ops = b.ops ∙ a.ops;
  voters = b.voters ∙ a.voters;
  touched = λ server here. b.touched server (a.touched server here);
}

-- ---- one server more

module _ (want : WantedLock) (server : ℕ) (told mid : List Exchange) (old new : OpenView) (before after : List Grant) where
  -- it granted the lock
  pub locked_next : (grant : Grant) → new ≡ touched_by old server → after ≡ before ++ grant ∷ [] → IsLockAt server want.mode grant → Follows (lock_line old.txn want.file want.mode server) told mid (Some (record { answer = Ok (grant_told old.txn want.file grant); after = tt }))
      → Contains (answers_in mid) (grant_told old.txn want.file grant) → IsLocking want (next_lock want.file want.mode server) (server ∷ []) told mid old new before after (Ok tt)
  locked_next grant noted more is first here =
      let line = lock_line old.txn want.file want.mode server in
      let told_is : NodeTold = grant_told old.txn want.file grant in
      let grown = grown_along line told mid (Some (record { answer = Ok told_is; after = tt })) first in
      let pushed = answers_push old.txn want.file before after grant more in
      let same : new.txn ≡ old.txn = ap (λ (v : OpenView). v.txn) noted in
      record {
        asks = next_locked want.file want.mode server old.txn (locks_of want.file old before) (locks_of want.file new after) told_is told mid refl (ap (λ txn. answers_of txn want.file after) same ∙ pushed) noted first;
        touched = touched_more old new server noted;
        heard = told_push told mid (answers_of old.txn want.file before) (answers_of old.txn want.file before) (answers_of old.txn want.file after) told_is refl pushed grown here;
        servers = granters_push before after grant server more is.0;
        modes = modes_push want.mode before after grant more is.1;
      }

  stopped_by : (fault : LineFault) → new ≡ old → after ≡ before → Grown told mid → Follows (next_lock want.file want.mode server (locks_of want.file old before)) told mid (ended_by {A = Unit {0}} (Err fault) (locks_of want.file new after)) → IsLocking want (next_lock want.file want.mode server) (server ∷ []) told mid old new before after (Err fault)
  stopped_by fault same more grown asks = record {
    asks = asks;
    touched = touched_same old new same;
    heard = told_same told mid (answers_of old.txn want.file before) (answers_of old.txn want.file after) (ap (answers_of old.txn want.file) more) grown;
    servers = tt;
    modes = λ all. subst (λ grants. AreOf want.mode grants) (sym more) all;
  }

  -- it did not
  pub unlocked_next : (fault : LineFault) → new ≡ old → after ≡ before → Follows (lock_line old.txn want.file want.mode server) told mid (ended_by {A = NodeTold} (Err fault) tt) → IsLocking want (next_lock want.file want.mode server) (server ∷ []) told mid old new before after (Err fault)
  unlocked_next fault same more first =
      let line = lock_line old.txn want.file want.mode server in
      let view = locks_of want.file old before in
      let is : locks_of want.file new after ≡ view = λ i. locks_of want.file (same i) (more i) in
      let P : LocksView → Type 0 = λ v. Follows (next_lock want.file want.mode server view) told mid (ended_by {A = Unit {0}} (Err fault) v) in
      stopped_by fault same more (grown_along line told mid (ended_by {A = NodeTold} (Err fault) tt) first)
      (subst P (sym is) (follows_off line (λ none. view) (λ t none. line_done tt (record { answers = view.answers ++ t ∷ []; txn = touched_by old server })) fault tt view told mid refl first))

  -- it granted the lock, and memory ran out behind its answer
  pub unnoted_next : (answer : NodeTold) → new ≡ old → after ≡ before → Follows (lock_line old.txn want.file want.mode server) told mid (Some (record { answer = Ok answer; after = tt })) → IsLocking want (next_lock want.file want.mode server) (server ∷ []) told mid old new before after (Err Memory)
  unnoted_next answer same more first =
      let line = lock_line old.txn want.file want.mode server in
      let view = locks_of want.file old before in
      let next : NodeTold → Unit {0} → Dialogue (LineEnd (Unit {0}) LocksView) = λ t none. line_done tt (record { answers = view.answers ++ t ∷ []; txn = touched_by old server }) in
      stopped_by Memory same more (grown_along line told mid (Some (record { answer = Ok answer; after = tt })) first)
      (follows_on line (λ none. view) next answer tt told mid mid None first (follows_memory (next answer tt) mid))

-- memory ran out before it was asked
pub unasked_next : (want : WantedLock) (server : ℕ) (told : List Exchange) (old new : OpenView) (before after : List Grant) → new ≡ old → after ≡ before → IsLocking want (next_lock want.file want.mode server) (server ∷ []) told told old new before after (Err Memory)
unasked_next want server told old new before after same more =
    stopped_by want server told told old new before after Memory same more ([], sym (append-nil told)) (follows_memory (next_lock want.file want.mode server (locks_of want.file old before)) told)

-- ---- several

-- with no server there is nothing to ask
pub locking_none : (want : WantedLock) (told : List Exchange) (now : OpenView) (grants : List Grant) → IsLocking want (locks_line want.file want.mode []) [] told told now now grants grants (Ok tt)
locking_none want told now grants = record {
  asks = follows_end _ told;
  touched = touched_same now now refl;
  heard = λ before. before;
  servers = sym (append-nil (granters grants));
  modes = λ before. before;
}

module _ (want : WantedLock) (servers rest : List Server) (server : Server) (is : servers ≡ server ∷ rest) (told mid : List Exchange) (old now : OpenView) (before some : List Grant) where
  -- where the first granted its lock, the others are asked
  pub locking_on : IsLocking want (next_lock want.file want.mode server.number) (server.number ∷ []) told mid old now before some (Ok tt) → (later : List Exchange) (new : OpenView) (after : List Grant) (result : Result (Unit {0}) LineFault)
      → IsLocking want (locks_line want.file want.mode (numbers_of rest)) (numbers_of rest) mid later now new some after result → IsLocking want (locks_line want.file want.mode (numbers_of servers)) (numbers_of servers) told later old new before after result
  locking_on first later new after result more =
      let P : ℕ → Type 0 = λ txn. AreHeard txn want.file mid some in
      let Q : ℕ → Type 0 = λ txn. AreHeard txn want.file later after in
      record {
        asks = locks_on want.file want.mode servers rest server (locks_of want.file old before) (locks_of want.file now some) is told mid later (ended_by result (locks_of want.file new after)) first.asks more.asks;
        touched = touched_trans old now new first.touched more.touched;
        heard = λ all. subst Q first.touched.txn (more.heard (subst P (sym first.touched.txn) (first.heard all)));
        servers = on_ok result (λ others. others ∙ servers_left before some server servers rest first.servers is) more.servers;
        modes = λ all. more.modes (first.modes all);
      }

  -- where the first did not, no other is asked
  pub locking_off : (fault : LineFault) → IsLocking want (next_lock want.file want.mode server.number) (server.number ∷ []) told mid old now before some (Err fault) → IsLocking want (locks_line want.file want.mode (numbers_of servers)) (numbers_of servers) told mid old now before some (Err fault)
  locking_off fault first = record {
    asks = locks_off want.file want.mode servers rest server (locks_of want.file old before) (locks_of want.file now some) is fault told mid first.asks;
    touched = first.touched;
    heard = first.heard;
    servers = tt;
    modes = first.modes;
  }
