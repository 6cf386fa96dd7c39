use Rattle.std.proofs.Common.{◌++◌, map, refl, ap, ◌∙◌}
use Rattle.tq_store.specs.Copies.{installed_all}
use Rattle.tq_intents.specs.declared.record.Record.TheVariants.{Copy}
use Rattle.tq_node.proofs.Sound.{sound-as, sound-copies}
use Rattle.tq_node.proofs.node.Node.install_first.Goals as goal

pub invariant_of-self-2 : goal.invariant_of-self-2
invariant_of-self-2 c =
    let inside = c.self.inside in
    sound-as (sound-copies inside.intents.records inside.last inside.copies.files inside.locks.locks c.self.invariant c.args.newer)
    (c.install_copies.ensures.records ∙ ap (λ list. list ++ map Copy c.args.newer) c.in_ok-reserve-2.ensures.records)
    (c.install_copies.ensures.files ∙ (λ i. installed_all (c.in_ok-reserve.ensures.files i) c.args.newer))
    refl
