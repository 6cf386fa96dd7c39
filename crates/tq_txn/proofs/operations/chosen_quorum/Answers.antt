use Rattle.std.proofs.{Common.{◌∙◌, sym, refl}, lemmas.Bool.eqb-true}
use Rattle.tq_txn_states.proofs.GoodGrants.{same_tree}
use Rattle.tq_txn.proofs.operations.chosen_quorum.Goals as goal

pub returns-then-not-are_of-clause-value : goal.returns-then-not-are_of-clause-value
returns-then-not-are_of-clause-value c =
    let quorum = c.in-Chosen.quorum in
    let other = sym (same_tree c.args.levels quorum.levels c.servers.result.now c.servers.ensures.member) ∙ sym c.are_of.ensures ∙ c.if-not-are_of.true in
    rw (c.in-Chosen.is, other) refl

pub returns-else-not-are_of-clause-value : goal.returns-else-not-are_of-clause-value
returns-else-not-are_of-clause-value c =
    let quorum = c.in-Chosen.quorum in
    let same = sym (same_tree c.args.levels quorum.levels c.servers.result.now c.servers.ensures.member) ∙ sym c.are_of.ensures ∙ c.if-not-are_of.false in
    rw (c.in-Chosen.is, same) refl

pub returns-else-not-are_of-clause-tree : goal.returns-else-not-are_of-clause-tree
returns-else-not-are_of-clause-tree c =
    let quorum = c.in-Chosen.quorum in
    eqb-true quorum.levels c.args.levels (sym (same_tree c.args.levels quorum.levels c.servers.result.now c.servers.ensures.member) ∙ sym c.are_of.ensures ∙ c.if-not-are_of.false)
