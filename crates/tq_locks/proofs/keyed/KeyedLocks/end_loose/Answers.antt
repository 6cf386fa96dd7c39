use Rattle.std.proofs.Common.{◌≡◌, ℕ, nat_eq, refl, ap, sym, ◌∙◌}
use Rattle.std.specs.FinMap as fin
use Rattle.slab.specs.Slab.{Slab}
use Rattle.tq_store.specs.Names.{same_name}
use Rattle.tq_locks.specs.{declared.{keyed.KeyedLocks.KeyedLocks, mode.Lock.Lock}, Locks.{LockKey, only_stable}}
use Rattle.tq_locks.{specs.{Keys.keys_under, Kept.{locks_in, Agrees}}, proofs.{Applied.Agrees-same, Found.some_same}}
use Rattle.tq_locks.proofs.Changed.{agreed_self, locks_in-agreed, only_stable-remove}
use Rattle.tq_locks.proofs.keyed.KeyedLocks.end_loose.Goals as goal

-- the entry is taken, and the list of its transaction with its last key
module _ (old removed new : KeyedLocks) (e : LockKey × Lock) (agreed : Agrees removed (fin.remove (locks_in old) e.0)) (entries : new.entries ≡ removed.entries) (files : new.by_file ≡ removed.by_file)
    (txns : (t : ℕ) → keys_under nat_eq new.by_txn t ≡ keys_under nat_eq removed.by_txn t) where
  pub taken : Agrees new (fin.remove (locks_in old) e.0)
  taken = Agrees-same removed new (fin.remove (locks_in old) e.0) agreed (ap (λ (s : Slab (LockKey × Lock)). s.slots) entries) (λ f. ap (λ lists. keys_under same_name lists f) files) txns

pub returns-clause-agreed : goal.returns-clause-agreed
returns-clause-agreed c =
    let e = c.in-Some.entry.now in
    let new : KeyedLocks = record { entries = c.remove.new.self.entries; by_file = c.remove.new.self.by_file; by_txn = c.end_empty_under.new.lists; homes = c.remove.new.self.homes; last = c.remove.new.self.last; alloc = c.remove.new.self.alloc } in
    agreed_self new (fin.remove (locks_in c.args.self.now) e.0) (taken c.args.self.now c.remove.new.self new e (c.remove.ensures.agreed e.0 (e.1, sym c.in-Some.ensures)) refl refl c.end_empty_under.ensures)

pub returns-clause-left : goal.returns-clause-left
returns-clause-left c =
    let e = c.in-Some.entry.now in
    let old = locks_in c.args.self.now in
    let new : KeyedLocks = record { entries = c.remove.new.self.entries; by_file = c.remove.new.self.by_file; by_txn = c.end_empty_under.new.lists; homes = c.remove.new.self.homes; last = c.remove.new.self.last; alloc = c.remove.new.self.alloc } in
    let loose = c.requires.loose in
    let same : loose.0 ≡ e = some_same loose.0 e (sym loose.1 ∙ sym c.in-Some.ensures) in
    ap only_stable (locks_in-agreed new (fin.remove old e.0) (taken c.args.self.now c.remove.new.self new e (c.remove.ensures.agreed e.0 (e.1, sym c.in-Some.ensures)) refl refl c.end_empty_under.ensures))
    ∙ only_stable-remove old e.0 e.1 (c.requires.agreed.sound c.args.key e (sym c.in-Some.ensures)) (ap (λ (x : LockKey × Lock). x.1.stable) (sym same) ∙ loose.2)
