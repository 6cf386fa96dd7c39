use Rattle.std.proofs.Common.{◌≡◌, ◌∷◌, refl, sym, ap, ◌∙◌, arith}
use Rattle.json.specs.{Token.end_object, Json.read_key}
use Rattle.serde_json.specs.{Data.no_members, Find.get_member}
use Rattle.tq_json.{specs.Next.{next_members, members_behind}, proofs.Nexts.members_end}
use Rattle.tq_json_read.{specs.Slots.slots_for, proofs.Places.from_there}
use Rattle.tq_json_read.proofs.object.take_members.Goals as goal

pub returns-in_err-slots-clause-err : goal.returns-in_err-slots-clause-err
returns-in_err-slots-clause-err g c refused = c.in_err-slots.ensures.err no_members (λ name among. refl) (grind arith)

pub returns-then-take_end_object-clause-ok : goal.returns-then-take_end_object-clause-ok
returns-then-take_end_object-clause-ok g c =
    let t = c.in_ok-slots.ensures.ok no_members (λ name among. refl) in
    let over : c.take_in_order.new.reader ≡ end_object ∷ c.take_end_object.new.self = grind arith in
    (t.0, t.1 ∙ members_end t.0 c.args.depth c.take_in_order.new.reader c.take_end_object.new.self (ap read_key over), t.2)

pub returns-clause-ok : goal.returns-clause-ok
returns-clause-ok g c =
    let t = c.in_ok-slots.ensures.ok no_members (λ name among. refl) in
    let same : c.take_end_object.new.self ≡ c.take_in_order.new.reader = grind arith in
    from_there c.take_others.result (λ ms slots. slots ≡ g.S.Slots.of c.args.plan.now (slots_for c.args.names.now (λ name. get_member name ms)))
    (next_members c.args.depth c.args.reader.now) (members_behind t.0 c.args.depth c.take_end_object.new.self) c.take_others.new.reader (t.1 ∙ ap (members_behind t.0 c.args.depth) (sym same)) (c.take_others.ensures.ok t.0 t.2)

pub returns-clause-err : goal.returns-clause-err
returns-clause-err g c refused =
    let t = c.in_ok-slots.ensures.ok no_members (λ name among. refl) in
    let same : c.take_end_object.new.self ≡ c.take_in_order.new.reader = grind arith in
    t.1 ∙ ap (members_behind t.0 c.args.depth) (sym same) ∙ c.take_others.ensures.err t.0 t.2 refused
