use Rattle.std.proofs.Common.{ap, ◌∙◌}
use Rattle.tq_json_read.{specs.Slots.{texts, slots_at}, proofs.Places.{all_filled, none_filled}}
use Rattle.tq_json_read.proofs.object.take_member.Goals as goal

pub returns-in_default-clause-ok : goal.returns-in_default-clause-ok
returns-in_default-clause-ok g c found is =
    let d = c.in_ok-pass_over.ensures.ok in
    (d.0, d.1, is ∙ ap (g.S.Slots.of c.args.plan.now) (none_filled c.args.name.now d.0 found (texts c.args.names.now) (rw c.in_default.is at c.place_of.ensures)))

pub returns-clause-ok : goal.returns-clause-ok
returns-clause-ok g c found is =
    let keys = texts c.args.names.now in
    let d = c.in_ok-put.ensures.ok (slots_at keys found) is in
    let at = c.in-Some.ensures in
    (d.0, d.1, d.2 ∙ ap (g.S.Slots.of c.args.plan.now) (all_filled c.args.name.now d.0 found keys c.in-Some.place c.requires at.0 at.1))
