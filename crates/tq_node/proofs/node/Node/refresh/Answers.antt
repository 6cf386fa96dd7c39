use Rattle.std.proofs.Common.{◌≡◌, [], ◌∷◌, ◌++◌, refl, ◌∙◌, rules}
use Rattle.tq_intents.specs.declared.record.Record.TheVariants.{Copy}
use Rattle.tq_store.specs.Copies.{copies_after_install}
use Rattle.tq_node.proofs.Sound.{sound-as, sound-copies}
use Rattle.tq_node.proofs.node.Node.refresh.Goals as goal

pub invariant_of-self-2 : goal.invariant_of-self-2
invariant_of-self-2 c =
    let inside = c.self.inside in
    let write = c.args.write in
    let stored : c.in_ok-kept.kept ≡ c.args.write.content = search rules in
    sound-as (sound-copies inside.intents.records inside.last inside.copies.files inside.locks.locks c.self.invariant (write ∷ []))
    (c.push_copy.ensures.records ∙ (λ i. c.in_ok-reserve-2.ensures.records i ++ Copy (c.in_ok-written.ensures i) ∷ []))
    (c.install.ensures.files ∙ (λ i. copies_after_install (c.in_ok-reserve.ensures.files i) write.file (record { version = write.version; content = stored i })))
    refl
