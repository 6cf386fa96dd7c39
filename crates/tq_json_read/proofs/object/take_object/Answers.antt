use Rattle.std.proofs.Common.{ap, ◌∙◌}
use Rattle.tq_json_read.{specs.Slots.{texts, slots_at}, proofs.{Places.empty_slots, Rows.no_names_at}}
use Rattle.tq_json_read.proofs.object.take_object.Goals as goal

pub returns-then-not-branch-clause-ok : goal.returns-then-not-branch-clause-ok
returns-then-not-branch-clause-ok g c =
    let keys = texts c.args.names.now in
    let d = rw c.if-not-branch.true at c.in_ok-open_object.ensures.ok in
    (d.0, d.1, c.empty.ensures ∙ ap (g.S.Slots.of c.args.plan.now) (empty_slots keys ∙ ap (slots_at keys) (no_names_at d.0 d.2)))
