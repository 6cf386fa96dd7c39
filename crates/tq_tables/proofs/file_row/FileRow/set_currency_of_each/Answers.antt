use Rattle.std.{proofs.Common.{◌-◌, ◌<◌, ℕ, List, length, get_or, refl, ap, sym, subst, ◌∙◌, arith}, specs.List.All}
use Rattle.std.proofs.lemmas.List.Elements.{All-head, All-rest}
use Rattle.tq_shape.specs.Tree.{Server}
use Rattle.tq_node.specs.Node.{NodeView}
use Rattle.tq_tables.specs.{Files.{IsOfLevels, row_by_copy, stood_in}, declared.file_row.FileRow.FileRow}
use Rattle.tq_tables.proofs.{Kept.stood-levels, RowLaws.at-place, Settled.{IsPlace, are-places-of, node-found}}
use Rattle.tq_tables.proofs.file_row.FileRow.set_currency_of_each.Goals as goal

pub set_currency-requires-clause-least : goal.set_currency-requires-clause-least
set_currency-requires-clause-least c = omega arith

pub loop-server-init : goal.loop-server-init
loop-server-init c =
    let nodes = c.args.nodes.now in
    let servers = c.args.servers.now in
    let all = c.into_iter-server-iterator.ensures.into_iter_gives ∙ c.iter-server-items.ensures.servers in
    record {
      of_tree = (refl, c.requires.levels);
      places = subst (λ (list : List Server). All (IsPlace (length nodes)) list) (sym all)
          (are-places-of servers.levels (length nodes) 0 servers.numbers c.iter-server-items.ensures.ascending c.requires.within);
      same = refl;
    }

pub bounds-nodes-place : goal.bounds-nodes-place
bounds-nodes-place c =
    let nodes = c.args.nodes.now in
    let place = All-head (IsPlace (length nodes)) c.in-Some.server c.next.new.self (subst (λ (servers : List Server). All (IsPlace (length nodes)) servers) c.in-Some.ensures.steps c.loop-server.invariant.places) in
    omega (arith, place.0, place.1, c.number.ensures.value)

pub set_currency-requires-clause-current : goal.set_currency-requires-clause-current
set_currency-requires-clause-current c =
    let nodes = c.args.nodes.now in
    let place = All-head (IsPlace (length nodes)) c.in-Some.server c.next.new.self (subst (λ (servers : List Server). All (IsPlace (length nodes)) servers) c.in-Some.ensures.steps c.loop-server.invariant.places) in
    let number = c.number.ensures.value in
    let less : c.number.result - 1 < length nodes = omega (arith, place.0, place.1, number) in
    (at-place c.args.self.now.current.levels 1 nodes c.requires.of_tree (c.number.result - 1) c.index-nodes-place.result less c.index-nodes-place.is).0 ∙ sym c.loop-server.invariant.of_tree.0

pub set_currency-requires-clause-stale : goal.set_currency-requires-clause-stale
set_currency-requires-clause-stale c =
    set_currency-requires-clause-current c ∙ c.loop-server.invariant.of_tree.0 ∙ sym c.loop-server.invariant.of_tree.1

pub loop-server-preserved : goal.loop-server-preserved
loop-server-preserved c =
    let nodes = c.args.nodes.now in
    let levels = c.args.self.now.current.levels in
    let server = c.in-Some.server in
    let rest = c.next.new.self in
    let node = c.index-nodes-place.result in
    let steps = c.in-Some.ensures.steps in
    let place = All-head (IsPlace (length nodes)) server rest (subst (λ (servers : List Server). All (IsPlace (length nodes)) servers) steps c.loop-server.invariant.places) in
    let found = node-found nodes server node place (c.index-nodes-place.is ∙ ap (λ (k : ℕ). get_or nodes (k - 1) node) c.number.ensures.value) in
    record {
      of_tree = subst (λ (r : FileRow). IsOfLevels levels r) (sym c.set_currency.ensures) (stood-levels levels node c.loop-server.self c.loop-server.invariant.of_tree);
      places = All-rest (IsPlace (length nodes)) server rest c.loop-server.server-iterator steps c.loop-server.invariant.places;
      same = ap (λ (r : FileRow). stood_in nodes r rest) (c.set_currency.ensures ∙ ap (λ (n : NodeView). row_by_copy n c.loop-server.self) found)
          ∙ sym (ap (stood_in nodes c.loop-server.self) steps)
          ∙ c.loop-server.invariant.same;
    }

pub returns-clause-stands : goal.returns-clause-stands
returns-clause-stands c =
    let nodes = c.args.nodes.now in
    sym (ap (stood_in nodes c.loop-server.self) c.in-None.ensures.steps.0)
    ∙ c.loop-server.invariant.same
    ∙ ap (stood_in nodes c.args.self.now) (c.into_iter-server-iterator.ensures.into_iter_gives ∙ c.iter-server-items.ensures.servers)
