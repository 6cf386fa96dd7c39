use Rattle.std.proofs.Common.{ap, sym, ◌∙◌, Some}
use Rattle.tq_shape.specs.{Tree.height_of, ServerSet.{Ascends, Servers}}
use Rattle.tq_coterie.proofs.Members.{member-set}
use Rattle.tq_live.specs.{Kept.{cost_for, allowed_for, found_set, found_in}, Least.with_all}
use Rattle.tq_live.proofs.{Found.{some_is, least_member-in}, Collecting.with_all-none}
use Rattle.tq_live.proofs.Whole.{StandsAt-IsAt, found_in-IsAt}
use Rattle.tq_live.proofs.tree.LiveTree.gather_into.Goals as goal

pub gather-requires : goal.gather-requires
gather-requires c =
    let live = c.args.self.now in
    let own = ap (λ (s : Servers). s.levels) c.requires.empty in
    rw (c.number-number.ensures.value, own) (StandsAt-IsAt live c.args.server.number c.node.result.now c.node.ensures)

pub returns-clause-found : goal.returns-clause-found
returns-clause-found c =
    let live = c.args.self.now in
    let sought = c.args.sought in
    let number = c.args.server.number in
    let tree = c.node.result.now in
    let there = some_is (found_set live sought number) c.requires.there in
    let member = least_member-in (cost_for live sought) (allowed_for live sought) (height_of live.levels number) number there.0 there.1 in
    let positive = rw c.number-number.ensures.value at c.number-number.ensures.within.0 in
    let up : Ascends 0 there.0 = (member-set (height_of live.levels number) number there.0 member).ascends positive 0 positive in
    let is = found_in-IsAt live sought number tree c.node.ensures ∙ there.1 in
    let put = c.gather.ensures.found there.0 (ap (λ n. found_in sought n tree) c.number-number.ensures.value ∙ is) in
    let numbers = ap (λ (s : Servers). s.numbers) put ∙ (ap (λ (s : Servers). with_all there.0 s.numbers) c.requires.empty ∙ with_all-none 0 there.0 up) in
    there.1 ∙ ap Some (sym numbers)
