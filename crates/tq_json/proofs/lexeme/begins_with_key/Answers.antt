use Rattle.std.proofs.{Common.{◌≡◌, ◌+◌, ◌-◌, length, take, drop, sym, ap, ◌∙◌, arith}, lemmas.Bool.eqb-true}
use Rattle.std.proofs.lemmas.Slice.Eq.{bytes_eq-Decides}
use Rattle.tq_json.proofs.lexeme.begins_with_key.Goals as goal

pub returns : goal.returns
returns c ends =
    let n = c.args.name.now in
    let t = c.args.text.now in
    let less : length n + 1 - 1 ≡ length n = omega arith in
    let same : take (length n + 1 - 1) (drop 1 t) ≡ n = (bytes_eq-Decides (take (length n + 1 - 1) (drop 1 t)) n).0 (sym c.are_same.ensures ∙ c.if-not-are_same.false) in
    (omega (arith, c.if-text-lt3.false, c.if-text-count.false), c.if-text-ne34.false, ap (λ k. take k (drop 1 t)) (sym less) ∙ same, c.if-text-count-ne34.false, eqb-true _ 58 ends)
