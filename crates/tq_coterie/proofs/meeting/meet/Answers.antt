use Rattle.std.proofs.Common.{sym, ◌∙◌, ℕ, subst}
use Rattle.tq_coterie.specs.Coterie.{IsMemberList}
use Rattle.tq_coterie.proofs.{Members.any_two-meet, Marked.{least-common, some-common, common-levels}}
use Rattle.tq_coterie.proofs.meeting.meet.Goals as goal

pub unreachable-requires : goal.unreachable-requires
unreachable-requires c =
    let others = c.servers-2.result.now in
    let P : ℕ → Type 0 = λ levels. IsMemberList levels others in
    some-common c.args.some.now.levels c.servers.result.now others c.servers.ensures.member
    (subst P (sym c.requires) c.servers-2.ensures.member)
    (sym c.first_in.ensures ∙ c.in-None.is)

pub returns-clause-least : goal.returns-clause-least
returns-clause-least c =
    let some = c.servers.result.now in
    let others = c.servers-2.result.now in
    rw (← c.servers.ensures.numbers, ← c.servers-2.ensures.numbers)
    (least-common c.args.some.now.levels some others c.in-Some.server c.servers.ensures.member (sym c.first_in.ensures ∙ c.in-Some.is))

pub returns-clause-any_two : goal.returns-clause-any_two
returns-clause-any_two c = any_two-meet c.args.some.now.levels

pub returns-clause-tree : goal.returns-clause-tree
returns-clause-tree c =
    common-levels c.args.some.now.levels c.servers.result.now c.servers-2.result.now c.in-Some.server c.servers.ensures.member (sym c.first_in.ensures ∙ c.in-Some.is)
