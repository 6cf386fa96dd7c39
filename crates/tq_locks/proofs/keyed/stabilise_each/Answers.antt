use Rattle.std.proofs.{Common.{◌+◌, drop, sym, ◌∙◌}, lemmas.List.at_drop_more}
use Rattle.tq_locks.{specs.Locks.entry_after_steady, proofs.Steadied.steadied-more}
use Rattle.tq_locks.proofs.keyed.stabilise_each.Goals as goal

pub loop-key-preserved : goal.loop-key-preserved
loop-key-preserved c j =
    let keys = c.args.keys.now in
    let i = c.loop-key.key-index in
    steadied-more c.loop-key.entries c.stabilise.new.self _ (drop (i + 1) keys) c.stabilise.ensures j
    ∙ sym (at_drop_more (λ ks. entry_after_steady c.loop-key.entries ks j) keys i _ c.loop-key-test.true)
    ∙ c.loop-key.invariant j
