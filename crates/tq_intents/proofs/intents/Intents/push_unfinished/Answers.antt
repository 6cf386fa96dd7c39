use Rattle.std.proofs.Common.{◌++◌, ap, sym, subst, ◌∙◌}
use Rattle.tq_intents.specs.Kept.{IsUnfinished, kept_copies, kept_votes}
use Rattle.tq_intents.proofs.{CopiesPush.kept_copies-others, DeadRecords.{IsIndex-dead, dead_copies, kept_votes-dead}}
use Rattle.tq_intents.proofs.intents.Intents.push_unfinished.Goals as goal

pub invariant_of-self-2 : goal.invariant_of-self-2
invariant_of-self-2 c =
    let was = ap (λ v. v.records) c.self.view_is in
    let items = rw c.unwrap.ensures at c.append.ensures.items in
    IsIndex-dead c.self.inside.records.items c.append.new.self.items c.args.records c.self.inside.open_votes
    (subst (λ list. IsUnfinished list c.args.records) (sym was) c.requires)
    (items ∙ (λ i. c.in_ok-reserve.ensures.items i ++ c.into_vec-added.ensures i))
    c.self.invariant

pub returns-clause-votes : goal.returns-clause-votes
returns-clause-votes c =
    let was = ap (λ v. v.records) c.self.view_is in
    let items = rw c.unwrap.ensures at c.append.ensures.items in
    ap kept_votes (items ∙ (λ i. (c.in_ok-reserve.ensures.items ∙ was) i ++ c.into_vec-added.ensures i))
    ∙ kept_votes-dead c.args.self.now.records c.args.records c.requires.number c.requires.newest c.requires.dead

pub returns-clause-copies : goal.returns-clause-copies
returns-clause-copies c =
    let was = ap (λ v. v.records) c.self.view_is in
    let items = rw c.unwrap.ensures at c.append.ensures.items in
    ap kept_copies (items ∙ (λ i. (c.in_ok-reserve.ensures.items ∙ was) i ++ c.into_vec-added.ensures i))
    ∙ kept_copies-others c.args.self.now.records c.args.records (dead_copies c.requires.number c.args.records c.requires.dead)
