use Rattle.std.proofs.Common.{◌<◌, length, sym, ◌∙◌, arith}
use Rattle.tq_json_read.{specs.Slots.texts, proofs.Places.{found_at, passed, length-texts, none_behind}}
use Rattle.tq_json_read.proofs.object.place_from.Goals as goal

pub returns-then-is_text : goal.returns-then-is_text
returns-then-is_text c =
    let within : c.names.place < length (texts c.args.names.now) = omega (arith, c.names-test.true, length-texts c.args.names.now) in
    (within, found_at c.args.name.now c.args.names.now c.names.place _ c.is_text.result c.names-test.true c.is_text.ensures c.if-is_text.true)

pub names-preserved : goal.names-preserved
names-preserved c = passed c.args.name.now c.args.names.now c.names.place _ c.is_text.result c.names-test.true c.is_text.ensures c.if-is_text.false ∙ c.names.invariant

pub returns : goal.returns
returns c = sym c.names.invariant ∙ none_behind c.args.name.now c.args.names.now c.names.place (omega (arith, c.names-test.false))
