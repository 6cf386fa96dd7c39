use Rattle.std.proofs.Common.{◌≡◌, ◌==◌, length, None, false, sym, ◌∙◌, rules}
use Rattle.tq_locks.specs.Locks.{holds_nothing}
use Rattle.tq_node.{specs.Records.not_locked, proofs.LocksWalked.holds_some}
use Rattle.tq_node.proofs.node.Node.prepare_refusal.Goals as goal

pub returns-then-not-is_empty : goal.returns-then-not-is_empty
returns-then-not-is_empty c =
    let old = c.args.self.now.state.records in
    let free : not_locked old c.args.txn c.args.writes.now ≡ None = search rules in
    let some : (length c.args.writes.now == 0) ≡ false = sym c.is_empty.ensures ∙ c.if-not-is_empty.true in
    let held : holds_nothing old.locks c.args.txn ≡ false = holds_some old c.args.txn c.args.writes.now some free in
    search rules
