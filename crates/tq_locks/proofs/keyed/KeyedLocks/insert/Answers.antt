use Rattle.std.proofs.Common.{◌≡◌, sym, subst, refl, ◌∙◌, Some, nat_eq}
use Rattle.slab.specs.Slab.{Updates}
use Rattle.tq_store.specs.Names.{same_name}
use Rattle.tq_locks.specs.{declared.keyed.KeyedLocks.KeyedLocks, Keys.keys_under, Kept.locks_in}
use Rattle.tq_locks.proofs.Applied.{Agrees-same, Agrees-inserted, RisesTo-same, OnErr-any, decided_on_file}
use Rattle.tq_locks.proofs.keyed.KeyedLocks.insert.Goals as goal

pub returns-in-Err-clause-told : goal.returns-in-Err-clause-told
returns-in-Err-clause-told c =
    let old = c.args.self.now in
    c.in-Err.ensures.told ∙ decided_on_file old (locks_in old) c.requires.agreed c.args.file.now c.args.txn c.args.lock.mode

pub returns-in_err-reserve-clause-err : goal.returns-in_err-reserve-clause-err
returns-in_err-reserve-clause-err c =
    let old = c.args.self.now in
    let new : KeyedLocks = record { entries = c.reserve.new.self; by_file = old.by_file; by_txn = old.by_txn; homes = old.homes; last = old.last; alloc = old.alloc } in
    OnErr-any _ _ (Agrees-same old new (locks_in old) c.requires.agreed c.reserve.ensures.same (λ f. refl) (λ t. refl))

pub returns-in_err-make_room_under-clause-err : goal.returns-in_err-make_room_under-clause-err
returns-in_err-make_room_under-clause-err c =
    let old = c.args.self.now in
    let new : KeyedLocks = record { entries = c.reserve.new.self; by_file = old.by_file; by_txn = c.make_room_under.new.lists; homes = old.homes; last = old.last; alloc = old.alloc } in
    OnErr-any _ _ (Agrees-same old new (locks_in old) c.requires.agreed c.reserve.ensures.same (λ f. refl) c.make_room_under.ensures.same)

pub returns-in_err-enter_under-clause-err : goal.returns-in_err-enter_under-clause-err
returns-in_err-enter_under-clause-err c =
    let old = c.args.self.now in
    let new : KeyedLocks = record { entries = c.reserve.new.self; by_file = c.enter_under.new.lists; by_txn = c.make_room_under.new.lists; homes = old.homes; last = old.last; alloc = old.alloc } in
    OnErr-any _ _ (Agrees-same old new (locks_in old) c.requires.agreed c.reserve.ensures.same c.in_err-enter_under.ensures.err c.make_room_under.ensures.same)

pub returns-clause-told : goal.returns-clause-told
returns-clause-told c =
    let old = c.args.self.now in
    c.in-Ok.ensures.told ∙ decided_on_file old (locks_in old) c.requires.agreed c.args.file.now c.args.txn c.args.lock.mode

pub returns-clause-ok : goal.returns-clause-ok
returns-clause-ok c =
    let old = c.args.self.now in
    let middle : KeyedLocks = record { entries = c.reserve.new.self; by_file = old.by_file; by_txn = c.make_room_under.new.lists; homes = old.homes; last = old.last; alloc = old.alloc } in
    let new : KeyedLocks = record { entries = c.insert_reserved.new.self; by_file = c.enter_under.new.lists; by_txn = c.put_under.new.lists; homes = c.note_home.new.homes; last = c.unwrap_or-self.result; alloc = old.alloc } in
    let file = c.args.file.now in
    let txn = c.args.txn in
    let same = c.reserve.ensures.same in
    let vacant : c.vacant_key-key.result ≡ c.insert_reserved.result = c.vacant_key-key.ensures.value ∙ sym c.insert_reserved.ensures.key in
    let in_file = keys_under same_name old.by_file file in
    let in_txn = keys_under nat_eq middle.by_txn txn in
    Agrees-inserted middle new (locks_in old) (Agrees-same old middle (locks_in old) c.requires.agreed same (λ f. refl) c.make_room_under.ensures.same)
    file txn c.args.lock c.in-Ok.in_file.place c.args.spot.place c.vacant_key-key.result in_file in_txn refl refl
    (RisesTo-same old.entries middle.entries in_file in_file (file, txn) c.in-Ok.in_file.place same refl c.in-Ok.ensures.place)
    (RisesTo-same old.entries middle.entries (keys_under nat_eq old.by_txn txn) in_txn (file, txn) c.args.spot.place same (c.make_room_under.ensures.same txn) c.requires.spot.1.rises)
    c.requires.absent c.vacant_key-key.ensures.vacant
    (subst (λ key. Updates middle.entries new.entries key (Some ((file, txn), c.args.lock))) (sym vacant) c.insert_reserved.ensures.updates) c.in_ok-enter_under.ensures.ok c.put_under.ensures
