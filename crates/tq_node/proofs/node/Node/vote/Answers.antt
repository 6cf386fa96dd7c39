use Rattle.std.proofs.Common.{◌<◌, ◌++◌, map, refl, ap, sym, ◌∙◌, arith}
use Rattle.std.specs.FinMap as fin
use Rattle.tq_locks.specs.Locks.{held_of}
use Rattle.tq_intents.specs.Kept.{vote_records}
use Rattle.tq_node.{specs.Records.kept_lock, proofs.Sound.{sound-as, sound-prepared}}
use Rattle.tq_node.proofs.node.Node.vote.Goals as goal

pub invariant_of-self-2 : goal.invariant_of-self-2
invariant_of-self-2 c =
    let inside = c.self.inside in
    let rises : inside.last < c.args.number = grind (arith, c.requires.rises, c.self.view_is) in
    let is_kept = c.requires.locks ∙ ap (λ v. map kept_lock (held_of v.state.records.locks c.args.txn)) (sym c.self.view_is) in
    sound-as (sound-prepared inside.intents.records inside.last inside.copies.files inside.locks.locks c.self.invariant c.args.txn c.args.number c.args.writes rises
    (ap (λ v. fin.get v.state.records.votes c.args.txn) c.self.view_is ∙ c.requires.closed))
    (c.in_ok-prepare.ensures.records ∙ (λ i. inside.intents.records ++ vote_records c.args.txn c.args.number c.args.writes (is_kept i)))
    refl c.keep.ensures
