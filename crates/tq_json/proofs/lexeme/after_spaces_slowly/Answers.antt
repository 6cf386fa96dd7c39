use Rattle.std.proofs.Common.{◌≡◌, ◌<◌, get_or, true, refl, sym, ap, ◌∙◌, length, arith}
use Rattle.std.proofs.lemmas.Str.{IsCharBoundary-start, IsCharBoundary-after_ascii}
use Rattle.json.specs.Word.{is_space}
use Rattle.tq_json.proofs.Lexemes.{space_over, space_ascii}
use Rattle.tq_json.proofs.lexeme.after_spaces_slowly.Goals as goal

pub spaces-init : goal.spaces-init
spaces-init c = (refl, omega arith, IsCharBoundary-start c.args.text.now c.utf8.text)

pub spaces-preserved : goal.spaces-preserved
spaces-preserved c =
    let l = c.spaces in
    let d = c.args.text.now in
    let within : l.place < length d = omega (arith, c.spaces-test.true, ap length c.as_bytes-bytes.ensures.value) in
    let space : is_space (get_or d l.place 0) ≡ true = ap (λ t. is_space (get_or t l.place 0)) (sym c.as_bytes-bytes.ensures.value) ∙ sym c.is_space.ensures ∙ c.if-is_space.true in
    (sym (space_over d l.place within space) ∙ l.invariant.0, omega (arith, within), IsCharBoundary-after_ascii d l.place c.utf8.text within (space_ascii (get_or d l.place 0) space))
