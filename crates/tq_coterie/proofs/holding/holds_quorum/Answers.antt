use Rattle.std.proofs.Common.{◌≡◌, ◌-◌}
use Rattle.tq_shape.proofs.Tree.{height_of-one}
use Rattle.tq_coterie.{specs.Coterie.{has, holds_member, members}, proofs.Sets.holds-otherwise}
use Rattle.tq_coterie.proofs.holding.holds_quorum.Goals as goal

pub returns-clause-held : goal.returns-clause-held
returns-clause-held c = rw (c.root.ensures.value, height_of-one c.args.levels) at c.holds_member_under.ensures

pub returns-clause-complement : goal.returns-clause-complement
returns-clause-complement c =
    let held : c.holds_member_under.result ≡ holds_member (has c.args.numbers.now) (members (c.args.levels - 1) 1) = rw (c.root.ensures.value, height_of-one c.args.levels) at c.holds_member_under.ensures in
    holds-otherwise (has c.args.numbers.now) (c.args.levels - 1) 1 c.holds_member_under.result held
