use Rattle.std.proofs.Common.{Some, ap, sym, ◌∙◌}
use mathlib.Core.Bool.{true≢false}
use Rattle.slab.specs.Slab.{get}
use Rattle.std.specs.{List.slice_get, Option.option_copied}
use Rattle.tq_locks.specs.{declared.mode.Lock.Lock, Locks.LockKey, Keys.keys_in, Kept.locks_in}
use Rattle.tq_locks.proofs.{Found.{some_same, none_some}, Applied.{IfNone-any, nothing_in_place, txn_of_key}}
use Rattle.tq_locks.proofs.keyed.KeyedLocks.key_at.Goals as goal

pub returns-in_err-list-clause-none : goal.returns-in_err-list-clause-none
returns-in_err-list-clause-none c txn stands agreed =
    let kept = c.args.self.now in
    let keys = keys_in (option_copied c.args.list) in
    let none = ap (λ list. slice_get (keys_in (option_copied list)) c.args.place) c.in_err-list.was in
    IfNone-any _ _ (nothing_in_place kept (locks_in kept) agreed c.args.file.now txn keys c.args.place stands.all stands.rises (λ k l at f. none_some k (sym none ∙ at)))

pub returns-in_err-key-clause-none : goal.returns-in_err-key-clause-none
returns-in_err-key-clause-none c txn stands agreed =
    let kept = c.args.self.now in
    let keys = keys_in (option_copied c.args.list) in
    let here = ap (λ list. slice_get (keys_in (option_copied list)) c.args.place) c.in_ok-list.was in
    IfNone-any _ _ (nothing_in_place kept (locks_in kept) agreed c.args.file.now txn keys c.args.place stands.all stands.rises (λ k l at f. none_some k (c.in_err-key.ensures ∙ sym here ∙ at)))

pub returns-in_err-entry-clause-none : goal.returns-in_err-entry-clause-none
returns-in_err-entry-clause-none c txn stands agreed =
    let kept = c.args.self.now in
    let keys = keys_in (option_copied c.args.list) in
    let here = ap (λ list. slice_get (keys_in (option_copied list)) c.args.place) c.in_ok-list.was in
    IfNone-any _ _ (nothing_in_place kept (locks_in kept) agreed c.args.file.now txn keys c.args.place stands.all stands.rises
    (λ k l at f. none_some ((c.args.file.now, txn), l) (c.in_err-entry.ensures ∙ ap (get kept.entries) (some_same c.in_ok-key.key k (c.in_ok-key.ensures ∙ sym here ∙ at)) ∙ f)))

pub returns-then-eq-clause-some : goal.returns-then-eq-clause-some
returns-then-eq-clause-some c txn stands agreed =
    let kept = c.args.self.now in
    let keys = keys_in (option_copied c.args.list) in
    let at = ap (λ list. slice_get (keys_in (option_copied list)) c.args.place) c.in_ok-list.was ∙ sym c.in_ok-key.ensures in
    let number = ap (λ (e : LockKey × Lock). e.0.1) c.entry-2.view_is ∙ txn_of_key kept (locks_in kept) agreed c.args.file.now txn keys c.args.place stands.all stands.rises c.in_ok-key.key c.in_ok-entry.entry.now at (sym c.in_ok-entry.ensures) in
    let name = c.eq.ensures.exact.0 c.if-eq.true in
    (c.entry-2.inside.lock, sym c.in_ok-entry.ensures ∙ ap Some (sym c.entry-2.view_is) ∙ (λ i. Some ((name i, number i), c.entry-2.inside.lock)))

pub returns-else-eq-clause-none : goal.returns-else-eq-clause-none
returns-else-eq-clause-none c txn stands agreed =
    let kept = c.args.self.now in
    let keys = keys_in (option_copied c.args.list) in
    let here = ap (λ list. slice_get (keys_in (option_copied list)) c.args.place) c.in_ok-list.was in
    nothing_in_place kept (locks_in kept) agreed c.args.file.now txn keys c.args.place stands.all stands.rises
    (λ k l at f.
    let same = some_same c.in_ok-entry.entry.now ((c.args.file.now, txn), l) (c.in_ok-entry.ensures ∙ ap (get kept.entries) (some_same c.in_ok-key.key k (c.in_ok-key.ensures ∙ sym here ∙ at)) ∙ f) in
    let name = ap (λ (e : LockKey × Lock). e.0.0) (c.entry-2.view_is ∙ same) in
    true≢false (sym (c.eq.ensures.exact.1 name) ∙ c.if-eq.false))
