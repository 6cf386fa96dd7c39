use Rattle.std.proofs.Common.{◌≡◌, nat_eq, ◌++◌, [], ◌∷◌, length, refl, ap, sym, subst, ◌∙◌}
use Rattle.std.specs.{List.slice_get, Option.option_to_list}
use Rattle.std.specs.FinMap as fin
use Rattle.tq_locks.specs.{declared.keyed.KeyedLocks.KeyedLocks, Locks.locks_after_release, Keys.keys_under}
use Rattle.tq_locks.{specs.Kept.{locks_in, Agrees}, proofs.Applied.{cond_same, entry_of_key, empty_keys}}
use Rattle.tq_locks.proofs.Changed.{agreed_self, locks_in-agreed, released-remove, released-none}
use Rattle.tq_locks.proofs.Partition.{with_list, own-with_list, at_last, Agrees-out, Agrees-back, Agrees-popped}
use Rattle.tq_locks.proofs.keyed.KeyedLocks.release.Goals as goal

pub loop-key-init : goal.loop-key-init
loop-key-init c =
    let old = c.args.self.now in
    let out = c.take_all_under-keys in
    let new : KeyedLocks = record { entries = old.entries; by_file = old.by_file; by_txn = out.new.lists; homes = old.homes; last = old.last; alloc = old.alloc } in
    (Agrees-out old new (locks_in old) c.args.txn out.result.items c.requires refl refl out.ensures.keys out.ensures.after, refl, out.ensures.after c.args.txn ∙ cond_same c.args.txn [] (keys_under nat_eq old.by_txn c.args.txn))

pub loop-key-preserved : goal.loop-key-preserved
loop-key-preserved c =
    let old = c.loop-key.self in
    let new = c.leave_file.new.self in
    let txn = c.args.txn in
    let keys = c.loop-key.keys.items in
    let rest = c.pop.new.self.items in
    let popped : keys ≡ rest ++ c.in-Some.key ∷ [] = c.pop.ensures.items ∙ ap (λ o. rest ++ option_to_list o) c.in-Some.is in
    let e = entry_of_key (with_list old txn keys) (locks_in old) c.loop-key.invariant.0 txn keys (length rest) c.in-Some.key (sym (own-with_list old txn keys)) (ap (λ ks. slice_get ks (length rest)) popped ∙ at_last rest c.in-Some.key) in
    let left = with_list new txn rest in
    let agreed : Agrees left (fin.remove (locks_in old) e.0.0) =
    Agrees-popped old new (locks_in old) txn keys rest c.in-Some.key e.0 c.loop-key.invariant.0 popped e.1 e.2
    (c.leave_file.ensures.left e.0.0 (e.0.1, e.2)) c.leave_file.ensures.entries c.leave_file.ensures.by_txn in (
      agreed_self left (fin.remove (locks_in old) e.0.0) agreed,
      ap (λ m. locks_after_release m txn) (locks_in-agreed left (fin.remove (locks_in old) e.0.0) agreed)
          ∙ subst (λ t. locks_after_release (fin.remove (locks_in old) e.0.0) t ≡ locks_after_release (locks_in old) t) e.1 (released-remove (locks_in old) e.0.0)
          ∙ c.loop-key.invariant.1,
      ap (λ lists. keys_under nat_eq lists txn) c.leave_file.ensures.by_txn ∙ c.loop-key.invariant.2,
    )

pub returns : goal.returns
returns c =
    let left = c.loop-key.self in
    let keys = c.loop-key.keys.items in
    let none : keys ≡ [] = c.in_default.ensures.none in
    let agreed = Agrees-back left (locks_in left) c.args.txn (subst (λ ks. Agrees (with_list left c.args.txn ks) (locks_in left)) none c.loop-key.invariant.0) c.loop-key.invariant.2 in
    let held = empty_keys left (locks_in left) agreed c.args.txn c.loop-key.invariant.2 in
    subst (Agrees left) (sym (released-none (locks_in left) c.args.txn held) ∙ c.loop-key.invariant.1) agreed
