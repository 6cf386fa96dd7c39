use Rattle.std.proofs.Common.{ap, sym, subst, ◌∙◌}
use Rattle.tq_shape.specs.ServerSet.{Servers, servers_of_numbers}
use Rattle.tq_tables.{specs.{Files.stood_in, Parts.AreOfTree}, proofs.Settled.first-exact}
use Rattle.tq_tables.proofs.file_rows.first_row.Goals as goal

pub set_currency_of_each-requires-clause-of_tree : goal.set_currency_of_each-requires-clause-of_tree
set_currency_of_each-requires-clause-of_tree c = subst (λ (s : Servers). AreOfTree s.levels 1 c.args.nodes.now) (sym c.in_ok-current.ensures) c.requires.of_tree

pub set_currency_of_each-requires-clause-levels : goal.set_currency_of_each-requires-clause-levels
set_currency_of_each-requires-clause-levels c = ap (λ (s : Servers). s.levels) (c.in_ok-stale.ensures.cases ∙ c.requires.all) ∙ sym (ap (λ (s : Servers). s.levels) c.in_ok-current.ensures)

pub returns : goal.returns
returns c =
    let nodes = c.args.nodes.now in
    let file = c.args.file in
    let early = c.args.holders.now.early in
    let stale = c.in_ok-stale.ensures.cases ∙ c.requires.all in
    c.set_currency_of_each.ensures.stands
    ∙ (λ i. stood_in nodes (record { file = file; version = 1; current = c.in_ok-current.ensures i; stale = stale i }) (servers_of_numbers (c.requires.early i) early.numbers))
    ∙ first-exact c.args.levels nodes c.requires.of_tree file early.numbers c.set_currency_of_each.ensures.ascending c.requires.within c.requires.others
