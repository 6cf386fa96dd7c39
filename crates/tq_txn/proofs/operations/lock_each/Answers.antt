use Rattle.std.proofs.{Common.{◌≡◌, ◌==◌, ◌+◌, ◌∙◌, ℕ, List, Ok, Err, true, drop, sym, ap, subst}, lemmas.List.drop_all}
use Rattle.std.{proofs.lemmas.Bool.and_parts, specs.List.list_all}
use Rattle.tq_coterie.specs.Coterie.{numbers_of}
use Rattle.tq_shape.specs.Tree.{Server}
use Rattle.tq_txn.specs.Lines.{IsLocking, lock_ask, locks_line}
use Rattle.tq_txn.proofs.{LineLaws.left_from, LockingLaws.{locking_none, locking_off, locking_on}}
use Rattle.tq_txn.proofs.operations.lock_each.Goals as goal

pub loop-server-preserved : goal.loop-server-preserved
loop-server-preserved g c =
    let held = c.loop-server.invariant in
    let lock = c.args.lock.now in
    let all = drop c.loop-server.server-index c.args.servers.now in
    let rest = drop (c.loop-server.server-index + 1) c.args.servers.now in
    let is = left_from c.args.servers.now c.loop-server.server-index c.server-item.result c.loop-server-test.true c.server-item.is in
    let Q : List Server → Type 0 = λ ids. list_all (λ id. id.levels == g.A.Asker.levels c.loop-server.asker) ids ≡ true in
    let R : ℕ → Type 0 = λ levels. list_all (λ id. id.levels == levels) rest ≡ true in
    let parts = and_parts (c.server-item.result.levels == g.A.Asker.levels c.loop-server.asker) (list_all (λ (id : Server). id.levels == g.A.Asker.levels c.loop-server.asker) rest) (subst Q is held.of_tree) in
    let first = c.in-Ok.ensures.locks in
    record {
      tree = c.lock_next.ensures.tree ∙ held.tree;
      of_tree = subst R (sym c.lock_next.ensures.tree) parts.1;
      same = first.touched.levels ∙ held.same ∙ sym c.lock_next.ensures.tree;
      ask = c.in-Ok.ensures.ask ∙ held.ask ∙ ap (λ txn. lock_ask txn lock.file lock.mode) (sym first.touched.txn);
      locks = λ later new after result more. held.locks later new after result
          (locking_on lock all rest c.server-item.result is (g.A.Asker.told c.loop-server.asker) (g.A.Asker.told c.lock_next.new.asker) c.loop-server.open c.lock_next.new.open c.loop-server.grants.items c.lock_next.new.grants.items first later new after result more);
    }

pub returns-clause-locks : goal.returns-clause-locks
returns-clause-locks g c =
    let lock = c.args.lock.now in
    let told = g.A.Asker.told c.loop-server.asker in
    let now = c.loop-server.open in
    let grants = c.loop-server.grants.items in
    let P : List Server → Type 0 = λ ids. IsLocking lock (locks_line lock.file lock.mode (numbers_of ids)) (numbers_of ids) told told now now grants grants (Ok tt) in
    c.loop-server.invariant.locks told now grants (Ok tt) (subst P (sym (drop_all c.loop-server.server-index c.args.servers.now c.loop-server-test.false)) (locking_none lock told now grants))

pub returns-in-Err-clause-locks : goal.returns-in-Err-clause-locks
returns-in-Err-clause-locks g c =
    let all = drop c.loop-server.server-index c.args.servers.now in
    let rest = drop (c.loop-server.server-index + 1) c.args.servers.now in
    let is = left_from c.args.servers.now c.loop-server.server-index c.server-item.result c.loop-server-test.true c.server-item.is in
    let told = g.A.Asker.told c.lock_next.new.asker in
    let new = c.lock_next.new.open in
    let grants = c.lock_next.new.grants.items in
    c.loop-server.invariant.locks told new grants (Err c.in-Err.fault)
    (locking_off c.args.lock.now all rest c.server-item.result is (g.A.Asker.told c.loop-server.asker) told c.loop-server.open new c.loop-server.grants.items grants c.in-Err.fault c.in-Err.ensures.locks)
