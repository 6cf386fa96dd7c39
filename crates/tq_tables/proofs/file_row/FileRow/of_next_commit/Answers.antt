use Rattle.std.{proofs.Common.{ℕ, ◌≤◌, length, ap, sym, subst, ◌∙◌}, specs.List.All}
use Rattle.tq_shape.specs.ServerSet.{servers_of_numbers}
use Rattle.tq_tables.specs.{Files.stood_in, Parts.AreOfTree, Rows.has_version, declared.file_row.FileRow.FileRow}
use Rattle.tq_tables.proofs.Settled.{are-within, at_next, next-exact}
use Rattle.tq_tables.proofs.file_row.FileRow.of_next_commit.Goals as goal

pub set_currency_of_each-requires-clause-of_tree : goal.set_currency_of_each-requires-clause-of_tree
set_currency_of_each-requires-clause-of_tree c = subst (λ (r : FileRow). AreOfTree r.current.levels 1 c.args.nodes.now) (sym c.in_ok-row.ensures) c.requires.of_tree

pub set_currency_of_each-requires-clause-levels : goal.set_currency_of_each-requires-clause-levels
set_currency_of_each-requires-clause-levels c = ap (λ (r : FileRow). r.stale.levels) (c.in_ok-row.ensures ∙ c.requires.exact) ∙ sym (ap (λ (r : FileRow). r.current.levels) c.in_ok-row.ensures)

pub set_currency_of_each-requires-clause-within : goal.set_currency_of_each-requires-clause-within
set_currency_of_each-requires-clause-within c =
    let row = c.args.self.now in
    let nodes = c.args.nodes.now in
    subst (λ (r : FileRow). All (λ (number : ℕ). number ≤ length nodes) r.current.numbers) (sym c.requires.exact)
    (are-within row.current.levels (has_version row.file row.version) nodes c.requires.of_tree)

pub returns : goal.returns
returns c =
    let row = c.args.self.now in
    let nodes = c.args.nodes.now in
    c.set_currency_of_each.ensures.stands
    ∙ (λ i. stood_in nodes (at_next (c.in_ok-row.ensures i)) (servers_of_numbers row.current.levels row.current.numbers))
    ∙ next-exact row.current.levels nodes c.requires.of_tree row c.requires.exact
