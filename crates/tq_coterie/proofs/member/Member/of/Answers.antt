use Rattle.std.proofs.Common.{refl}
use Rattle.tq_coterie.proofs.Parts.{numbers_of-servers_of, IsMemberList-servers_of}
use Rattle.tq_coterie.proofs.member.Member.of.Goals as goal

pub server_ids-requires : goal.server_ids-requires
server_ids-requires g c = c.is_member.ensures.servers c.if-not-is_member.false

pub new-requires : goal.new-requires
new-requires g c =
    let member = c.is_member.ensures.member.0 c.if-not-is_member.false in
    rw c.in_ok-servers.ensures (IsMemberList-servers_of c.args.levels c.args.numbers.now member)

pub returns-clause-exact : goal.returns-clause-exact
returns-clause-exact g c =
    let member = c.is_member.ensures.member.0 c.if-not-is_member.false in
    let same = numbers_of-servers_of c.args.levels c.args.numbers.now in
    rw (c.in_ok-member.ensures, c.in_ok-servers.ensures, same) (member, refl)

pub returns-clause-ascending : goal.returns-clause-ascending
returns-clause-ascending g c = c.is_member.ensures.ascending c.if-not-is_member.false
