use Rattle.std.proofs.Common.{◌≡◌, ◌∙◌, ◌++◌, ℕ, [], ◌∷◌, Some, Result, Ok, Err, sym, ap, subst, rules}
use Rattle.std.specs.List.{Contains}
use Rattle.tq_asks.specs.declared.ask.NodeAsk.{NodeAsk}
use Rattle.tq_txn_states.specs.{Voting.grant_told, Open.{OpenView, touched_by}, declared.told.NodeTold.NodeTold}
use Rattle.tq_txn.specs.{declared.fault.LineFault.{LineFault, TheVariants.Memory}, Told.answers_in}
use Rattle.tq_txn.specs.{Lines.{IsLocking, lock_ask, lock_line, next_lock, without_ask}, Dialogue.{Follows, ended_by}}
use Rattle.tq_txn.proofs.LockingLaws.{locked_next, unasked_next, unlocked_next, unnoted_next}
use Rattle.tq_txn.proofs.operations.lock_next.Goals as goal

pub lock_at-requires-clause-ask : goal.lock_at-requires-clause-ask
lock_at-requires-clause-ask g c =
    let same = c.txn.ensures ∙ ap (λ (v : OpenView). v.txn) c.room_to_touch.ensures in
    c.requires.ask ∙ ap (λ txn. lock_ask txn c.args.lock.now.file c.args.lock.now.mode) (sym same)

pub touch_near-requires : goal.touch_near-requires
touch_near-requires g c = c.requires.of_tree ∙ sym c.requires.same ∙ ap (λ (v : OpenView). v.levels) (sym c.room_to_touch.ensures)

pub returns-clause-ask : goal.returns-clause-ask
returns-clause-ask g c =
    let same = c.txn.ensures ∙ ap (λ (v : OpenView). v.txn) c.room_to_touch.ensures in
    c.in-Ok.ensures.ask ∙ ap (λ txn. lock_ask txn c.args.lock.now.file c.args.lock.now.mode) same ∙ sym c.requires.ask

pub returns-in_err-room_to_touch-clause-locks : goal.returns-in_err-room_to_touch-clause-locks
returns-in_err-room_to_touch-clause-locks g c =
    let lock = c.args.lock.now in
    let number = c.args.server.number in
    let told = g.A.Asker.told c.args.asker.now in
    let grants = c.args.grants.now.items in
    let fault : Err Memory ≡ c.from_residual.result = Prim.search (c.from_residual.ensures, rules) in
    let P : Result NodeAsk LineFault → Type 0 = λ r. IsLocking lock (next_lock lock.file lock.mode number) (number ∷ []) told told c.args.open.now c.room_to_touch.new.self grants grants (without_ask r) in
    subst P fault (unasked_next lock number told c.args.open.now c.room_to_touch.new.self grants grants c.room_to_touch.ensures (λ i. grants))

pub returns-in_err-reserve-clause-locks : goal.returns-in_err-reserve-clause-locks
returns-in_err-reserve-clause-locks g c =
    let lock = c.args.lock.now in
    let number = c.args.server.number in
    let told = g.A.Asker.told c.args.asker.now in
    let before = c.args.grants.now.items in
    let after = c.reserve.new.self.items in
    let fault : Err Memory ≡ c.from_residual-in_err-reserve.result = Prim.search (c.from_residual-in_err-reserve.ensures, rules) in
    let P : Result NodeAsk LineFault → Type 0 = λ r. IsLocking lock (next_lock lock.file lock.mode number) (number ∷ []) told told c.args.open.now c.room_to_touch.new.self before after (without_ask r) in
    subst P fault (unasked_next lock number told c.args.open.now c.room_to_touch.new.self before after c.room_to_touch.ensures c.reserve.ensures.items)

pub returns-in-Err-clause-locks : goal.returns-in-Err-clause-locks
returns-in-Err-clause-locks g c =
    let lock = c.args.lock.now in
    let number = c.args.server.number in
    let told = g.A.Asker.told c.args.asker.now in
    let mid = g.A.Asker.told c.lock_at.new.asker in
    let same = c.txn.ensures ∙ ap (λ (v : OpenView). v.txn) c.room_to_touch.ensures in
    let P : ℕ → Type 0 = λ txn. Follows (lock_line txn lock.file lock.mode number) told mid (ended_by {A = NodeTold} (Err c.in-Err.fault) tt) in
    unlocked_next lock number told mid c.args.open.now c.room_to_touch.new.self c.args.grants.now.items c.reserve.new.self.items c.in-Err.fault c.room_to_touch.ensures c.reserve.ensures.items (subst P same c.in-Err.ensures.asks)

pub returns-in_err-touch_near-clause-locks : goal.returns-in_err-touch_near-clause-locks
returns-in_err-touch_near-clause-locks g c =
    let lock = c.args.lock.now in
    let number = c.args.server.number in
    let open_txn = c.args.open.now in
    let grant = c.in-Ok.locked.0 in
    let told = g.A.Asker.told c.args.asker.now in
    let mid = g.A.Asker.told c.lock_at.new.asker in
    let before = c.args.grants.now.items in
    let after = c.reserve.new.self.items in
    let same = c.txn.ensures ∙ ap (λ (v : OpenView). v.txn) c.room_to_touch.ensures in
    let fault : Err Memory ≡ c.from_residual-in_err-touch_near.result = Prim.search (c.from_residual-in_err-touch_near.ensures, rules) in
    let P : Result NodeAsk LineFault → Type 0 = λ r. IsLocking lock (next_lock lock.file lock.mode number) (number ∷ []) told mid open_txn c.touch_near.new.self before after (without_ask r) in
    let Q : ℕ → Type 0 = λ txn. Follows (lock_line txn lock.file lock.mode number) told mid (Some (record { answer = Ok (grant_told txn lock.file grant); after = tt })) in
    subst P fault (unnoted_next lock number told mid open_txn c.touch_near.new.self before after (grant_told open_txn.txn lock.file grant) (c.in_err-touch_near.ensures.err ∙ c.room_to_touch.ensures) c.reserve.ensures.items (subst Q same c.in-Ok.ensures.asks))

pub returns-clause-locks : goal.returns-clause-locks
returns-clause-locks g c =
    let lock = c.args.lock.now in
    let number = c.args.server.number in
    let open_txn = c.args.open.now in
    let grant = c.in-Ok.locked.0 in
    let told = g.A.Asker.told c.args.asker.now in
    let mid = g.A.Asker.told c.lock_at.new.asker in
    let same = c.txn.ensures ∙ ap (λ (v : OpenView). v.txn) c.room_to_touch.ensures in
    let Q : ℕ → Type 0 = λ txn. Follows (lock_line txn lock.file lock.mode number) told mid (Some (record { answer = Ok (grant_told txn lock.file grant); after = tt })) in
    let R : ℕ → Type 0 = λ txn. Contains (answers_in mid) (grant_told txn lock.file grant) in
    let noted = c.in_ok-touch_near.ensures.ok ∙ ap (λ (v : OpenView). touched_by v number) c.room_to_touch.ensures in
    let more = c.push_reserved.ensures.items ∙ ap (λ gs. gs ++ grant ∷ []) c.reserve.ensures.items in
    locked_next lock number told mid open_txn c.touch_near.new.self c.args.grants.now.items c.push_reserved.new.self.items grant noted more c.in-Ok.ensures.grant (subst Q same c.in-Ok.ensures.asks) (subst R same c.in-Ok.ensures.heard)
