use Rattle.std.proofs.Common.{[], ◌∷◌, ◌++◌, IsSome, refl, ap, sym, subst, ◌∙◌}
use Rattle.std.specs.FinMap as fin
use Rattle.tq_intents.specs.{Kept.{kept_votes, vote_at}, declared.record.Record.TheVariants.Gone}
use Rattle.tq_node.proofs.Sound.{sound-as, sound-ended}
use Rattle.tq_node.proofs.node.Node.discard.Goals as goal

pub invariant_of-self-2 : goal.invariant_of-self-2
invariant_of-self-2 c =
    let inside = c.self.inside in
    let is_open : IsSome (fin.get (kept_votes inside.intents.records) c.args.txn) = subst (λ v. IsSome (fin.get v.state.records.votes c.args.txn)) (sym c.self.view_is) c.requires.open in
    sound-as (sound-ended inside.intents.records inside.last inside.copies.files inside.locks.locks c.self.invariant c.args.txn is_open)
    (c.finish.ensures.records ∙ ap (λ list. list ++ Gone c.args.txn (vote_at (kept_votes list) c.args.txn).number ∷ []) c.in_ok-reserve.ensures.records)
    refl c.release.ensures
