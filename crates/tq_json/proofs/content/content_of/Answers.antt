use Rattle.std.proofs.Common.{Some, ap, ◌∙◌, arith}
use Rattle.tq_json.proofs.Contents.{by_new, too_long, no_digits}
use Rattle.tq_json.proofs.content.content_of.Goals as goal

pub returns-then-is_empty : goal.returns-then-is_empty
returns-then-is_empty c = ap Some c.empty.ensures ∙ no_digits c.args.format c.args.text.now (grind (arith, c.if-is_empty.true))

pub returns-then-text-most_digits : goal.returns-then-text-most_digits
returns-then-text-most_digits c = too_long c.args.format c.args.text.now (omega (arith, c.most_content-most_digits.ensures.value, c.if-text-most_digits.true))

pub returns-in-Ok : goal.returns-in-Ok
returns-in-Ok c =
    by_new c.args.format c.args.text.now c.in-Ok.bytes.items c.new.result (omega (arith, c.most_content-most_digits.ensures.value, c.if-text-most_digits.false))
    (rw c.as_bytes.ensures.value at c.in-Ok.ensures.ok) c.new.ensures.exact c.new.ensures.value
