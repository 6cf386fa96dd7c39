use Rattle.std.proofs.Common.{◌∙◌, ℕ, List, Option, get_or, ap, sym}
use Rattle.std.proofs.lemmas.Bool.{ne_eqb}
use Rattle.std.specs.{Borrow.Bor, Option.option_map}
use Rattle.tq_syntax.proofs.WordLaws.{word_stops}
use Rattle.tq_syntax.proofs.word.digits_to_space.Goals as goal

pub returns-in_err-value-clause-value : goal.returns-in_err-value-clause-value
returns-in_err-value-clause-value c =
    let stops = word_stops c.args.bytes.now c.loop-place.place c.loop-place.value c.loop-place-test.true (ne_eqb (get_or c.args.bytes.now c.loop-place.place 0) 32 c.if-byte-eq32.false) (sym c.in_err-value.ensures) in
    ap (λ (found : Option (ℕ × ℕ × Option (Bor (List ℕ)))). option_map (λ n. n.0) found) c.from_residual.ensures ∙ sym stops ∙ c.loop-place.invariant.value
