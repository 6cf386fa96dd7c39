use Rattle.std.proofs.{Common.{◌≡◌, map, ◌∙◌, arith}, lemmas.Grind.common_steps}
use Rattle.tq_intents.specs.Sharing.{kept_each}
use Rattle.tq_locks.specs.Locks.{held_of}
use Rattle.tq_node.{specs.Records.held_lock, proofs.LocksWalked.{kept_each-map, version_of}}
use Rattle.tq_node.proofs.votes.locks_of.Goals as goal

pub loop-entry-preserved : goal.loop-entry-preserved
loop-entry-preserved c = grind (arith, common_steps)

pub returns-clause-kept : goal.returns-clause-kept
returns-clause-kept c =
    let entries = held_of c.args.table.now.locks c.args.txn in
    let held : c.in_ok-clone.field-0 ≡ map held_lock entries = grind (arith, common_steps) in
    let versions : c.loop-entry.versions.items ≡ map version_of entries = grind (arith, common_steps) in
    c.new-kept.ensures ∙ (λ i. kept_each (held i) (versions i)) ∙ kept_each-map entries
