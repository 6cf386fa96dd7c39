use Rattle.std.proofs.Common.{◌<◌, length, refl, arith}
use Rattle.tq_json_read.{specs.Slots.texts, proofs.Places.{found_at, length-texts, wanted_at, still_none}}
use Rattle.tq_json_read.proofs.object.Tuple2OptionSlots.first_place.Goals as goal

pub returns-then-is_wanted : goal.returns-then-is_wanted
returns-then-is_wanted g c =
    let names = c.args.names.now in
    let some : c.args.slot < length names = omega arith in
    let within : c.args.slot < length (texts names) = omega (arith, some, length-texts names) in
    (within, found_at c.args.name.now names c.args.slot _ _ some refl (wanted_at c.args.first c.args.slot _ c.is_wanted.result c.is_wanted.ensures c.if-is_wanted.true))

pub returns : goal.returns
returns g c =
    let some : c.args.slot < length c.args.names.now = omega arith in
    still_none c.args.name.now c.args.names.now c.args.slot c.args.first _ c.is_wanted.result c.first_place.result some c.is_wanted.ensures c.if-is_wanted.false c.first_place.ensures
