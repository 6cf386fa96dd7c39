use Rattle.std.proofs.Common.{◌∙◌, Some, Ok, subst}
use Rattle.tq_asks.specs.declared.ask.NodeAsk.{NodeAsk}
use Rattle.tq_txn.specs.Dialogue.{Follows, node_line}
use Rattle.tq_txn.proofs.{LockingLaws.{asked_lock, heard_at}, KnownLaws.told_last, LineLaws.told_node}
use Rattle.tq_txn.proofs.operations.lock_at.Goals as goal

pub returns-in-Ok-clause-asks : goal.returns-in-Ok-clause-asks
returns-in-Ok-clause-asks g c =
    let file = c.args.lock.now.file in
    let mode = c.args.lock.now.mode in
    let old = g.A.Asker.told c.args.asker.now in
    let new = g.A.Asker.told c.node.new.self in
    let P : NodeAsk → Type 0 = λ ask. Follows (node_line c.args.server.number ask) old new (Some (record { answer = Ok c.in-Ok.told; after = tt })) in
    let first = told_node c.args.server.number c.args.ask c.in-Ok.told old new c.in-Ok.ensures.exchanges c.in-Ok.ensures.same.0 c.in-Ok.ensures.same.1 in
    asked_lock c.args.txn file mode c.args.server.number c.in-Ok.told c.granted_lock.result old new (subst P c.requires.ask first) (c.granted_lock.ensures.told c.args.txn file (c.in-Ok.ensures.same.1 ∙ c.requires.ask))

pub returns-in-Ok-clause-heard : goal.returns-in-Ok-clause-heard
returns-in-Ok-clause-heard g c =
    let file = c.args.lock.now.file in
    let new = g.A.Asker.told c.node.new.self in
    heard_at c.args.txn file c.in-Ok.told c.granted_lock.result new (c.granted_lock.ensures.told c.args.txn file (c.in-Ok.ensures.same.1 ∙ c.requires.ask))
    (told_last c.args.server.number c.args.ask c.in-Ok.told (g.A.Asker.told c.args.asker.now) new c.in-Ok.ensures.exchanges c.in-Ok.ensures.same.0 c.in-Ok.ensures.same.1)
