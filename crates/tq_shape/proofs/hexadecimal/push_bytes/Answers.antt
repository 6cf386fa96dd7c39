use Rattle.std.proofs.Common.{◌++◌, [], ap, sym, refl, ◌∙◌, append_assoc}
use Rattle.hex.specs.Hex.{encode_lower}
use Rattle.tq_shape.proofs.Digits.{none-behind, part-behind}
use Rattle.tq_shape.proofs.hexadecimal.push_bytes.Goals as goal

pub loop-rest-init : goal.loop-rest-init
loop-rest-init c = ([], refl, none-behind c.args.text.now.items)

pub loop-rest-preserved : goal.loop-rest-preserved
loop-rest-preserved c =
    let front = c.loop-rest.invariant.0 in
    let part = c.split_at.result.0.now in
    let more = c.split_at.result.1.now in
    let whole = append_assoc front part more ∙ ap (λ bytes. front ++ bytes) (sym c.split_at.ensures.by_index.0) ∙ c.loop-rest.invariant.1 in
    (front ++ part, whole, part-behind _ front part _ _ c.loop-rest.invariant.2 c.in_ok-push_part.ensures.text)

pub returns-clause-text : goal.returns-clause-text
returns-clause-text c =
    let front = c.loop-rest.invariant.0 in
    let text = part-behind c.args.text.now.items front c.loop-rest.rest.now _ _ c.loop-rest.invariant.2 c.in_ok-push_part-2.ensures.text in
    text ∙ ap (λ bytes. c.args.text.now.items ++ encode_lower bytes) c.loop-rest.invariant.1
