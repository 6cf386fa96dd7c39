use Rattle.std.proofs.Common.{◌∷◌, [], string_bytes, ap, ◌∙◌, arith}
use Rattle.tq_board_text.proofs.Listing.{one_digit, last_digit}
use Rattle.tq_board_text.proofs.word.+push_digits.Goals as goal

pub returns-then-number-lt10 : goal.returns-then-number-lt10
returns-then-number-lt10 t c =
    let few = c.if-number-lt10.true in
    let is = c.push.ensures.ascii (omega (arith, c.digit.ensures, few)) ∙ ap (λ d. d ∷ []) c.digit.ensures in
    one_digit c.push.result (string_bytes c.args.text.now) _ _ c.args.number few is c.push.ensures.bytes

pub returns : goal.returns
returns t c =
    let many = c.if-number-lt10.false in
    let is = c.push-2.ensures.ascii (omega (arith, c.digit-2.ensures)) ∙ ap (λ d. d ∷ []) c.digit-2.ensures in
    last_digit c.push-2.result (string_bytes c.args.text.now) (string_bytes c.push_digits.new.text) _ _ c.args.number (omega (arith, many)) c.ranges.number.fits c.in_ok-push_digits.ensures is c.push-2.ensures.bytes
