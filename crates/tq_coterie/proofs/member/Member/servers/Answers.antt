use Rattle.std.{proofs.Common.{◌-◌, arith}, specs.Arc.arc_value}
use Rattle.tq_coterie.{specs.Coterie.numbers_of, proofs.Parts.Ascends-member}
use Rattle.tq_coterie.proofs.member.Member.servers.Goals as goal

pub returns-clause-ascending : goal.returns-clause-ascending
returns-clause-ascending g c =
    let list = arc_value c.self.inside.list in
    rw (← c.self.view_is) (Ascends-member (list.levels - 1) 1 (numbers_of list.servers.items) (omega arith) c.self.invariant.member)
