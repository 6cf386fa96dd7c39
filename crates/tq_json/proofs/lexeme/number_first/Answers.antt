use Rattle.std.proofs.Common.{◌≡◌, ◌<◌, true, get_or, length, lt_of_not-le, sym, ap, subst, ◌∙◌, arith}
use Rattle.std.{proofs.lemmas.List.{get_or_default, get_or_past}, specs.Char.digit_value}
use Rattle.json.specs.Word.{head}
use Rattle.tq_json.proofs.{Contents.{one_more, next_number, below_18}, Lexemes.{counted, digit_range, ends_value}}
use Rattle.tq_json.proofs.lexeme.number_first.Goals.{else-count-gt1-via-then-count-gt1+else-byte_at-eq48, else-count-gt1-via-else-count-gt1}
use Rattle.tq_json.proofs.lexeme.number_first.Goals as goal

pub overflow_mul-number : goal.overflow_mul-number
overflow_mul-number c =
    let l = c.digits in
    omega (arith, below_18 c.args.text.now l.count l.number l.invariant.0 (omega arith) l.invariant.2 l.invariant.3)

pub overflow_add-number : goal.overflow_add-number
overflow_add-number c =
    let l = c.digits in
    omega (arith, below_18 c.args.text.now l.count l.number l.invariant.0 (omega arith) l.invariant.2 l.invariant.3)

pub digits-preserved : goal.digits-preserved
digits-preserved c =
    let l = c.digits in
    let d = c.args.text.now in
    let digit : digit_value c.byte_at.result < 10 = c.if-is_ascii_digit.ensures.bound in
    let low = digit_range c.byte_at.result digit in
    let within : l.count < length d = lt_of_not-le (λ h. omega (arith, c.byte_at.ensures.value, get_or_past d l.count 32 h, low.0)) in
    let first : c.byte_at.result ≡ get_or d l.count 0 = c.byte_at.ensures.value ∙ get_or_default d l.count 32 0 within in
    let second : c.byte_at-in-digits.result ≡ get_or d l.count 0 = c.byte_at-in-digits.ensures.value ∙ get_or_default d l.count 32 0 within in
    let here : digit_value (get_or d l.count 0) < 10 = subst (λ x. digit_value x < 10) first digit in (
      omega (arith, within),
      omega arith,
      one_more d l.count within l.invariant.2 here,
      rw second (next_number d l.count l.number within l.invariant.3 here),
    )

pub returns : goal.returns
returns c =
    let l = c.digits in
    let d = c.args.text.now in
    let one : head d ≡ 48 → l.count ≡ 1 = elim c.else-count-gt1.branch [
      | else-count-gt1-via-then-count-gt1+else-byte_at-eq48 w ↦ λ e. absurd (w.if-byte_at-eq48.false (w.byte_at-then-count-gt1.ensures.value ∙ e))
      | else-count-gt1-via-else-count-gt1 w ↦ λ e. omega (arith, w.if-count-gt1.false, c.if-count-eq0.false)
    ] in
    let ends : ends_value (get_or d l.count 32) ≡ true = ap ends_value (sym c.byte_at-2.ensures.value) ∙ sym c.ends_value.ensures ∙ c.if-not-ends_value.false in
    counted d l.number l.count (omega (arith, c.if-count-eq0.false)) (omega (arith, l.invariant.1, c.if-count-eq-MANY_DIGITS.false)) l.invariant.0 l.invariant.2 l.invariant.3 one ends
