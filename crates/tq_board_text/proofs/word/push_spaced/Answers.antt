use Rattle.std.proofs.{Common.{◌/◌, ◌<◌, ◌∷◌, ◌++◌, [], string_bytes, sym, ap, ◌∙◌, arith}, lemmas.Fmt.decimal_digit}
use Rattle.tq_board_text.proofs.Listing.{one_digit, last_digit, spaced_digits}
use Rattle.tq_board_text.proofs.word.push_spaced.Goals as goal

pub returns-then-number-lt10 : goal.returns-then-number-lt10
returns-then-number-lt10 c =
    let few = c.if-number-lt10.true in
    let space = c.in_ok-push.ensures.bytes ∙ ap (λ more. string_bytes c.args.text.now ++ more) (c.in_ok-push.ensures.ascii (omega arith)) in
    let is = c.push-then-number-lt10.ensures.ascii (omega (arith, c.digit.ensures, few)) ∙ ap (λ d. d ∷ []) c.digit.ensures in
    spaced_digits c.push-then-number-lt10.result (string_bytes c.args.text.now) (string_bytes c.push.new.self) _ c.args.number space
    (one_digit c.push-then-number-lt10.result (string_bytes c.push.new.self) _ _ c.args.number few is c.push-then-number-lt10.ensures.bytes)

pub returns-then-number-lt100 : goal.returns-then-number-lt100
returns-then-number-lt100 c =
    let few = c.if-number-lt100.true in
    let many = c.if-number-lt10.false in
    let small : c.args.number / 10 < 10 = omega (arith, few) in
    let space = c.in_ok-push.ensures.bytes ∙ ap (λ more. string_bytes c.args.text.now ++ more) (c.in_ok-push.ensures.ascii (omega arith)) in
    let tens = c.in_ok-push-2.ensures.ascii (omega (arith, c.digit-then-number-lt100.ensures, few)) ∙ ap (λ d. d ∷ []) c.digit-then-number-lt100.ensures in
    let ones = c.push-then-number-lt100-2.ensures.ascii (omega (arith, c.digit-then-number-lt100-2.ensures)) ∙ ap (λ d. d ∷ []) c.digit-then-number-lt100-2.ensures in
    let before = c.in_ok-push-2.ensures.bytes ∙ ap (λ more. string_bytes c.push.new.self ++ more) (tens ∙ sym (decimal_digit (c.args.number / 10) small)) in
    spaced_digits c.push-then-number-lt100-2.result (string_bytes c.args.text.now) (string_bytes c.push.new.self) _ c.args.number space
    (last_digit c.push-then-number-lt100-2.result (string_bytes c.push.new.self) (string_bytes c.push-then-number-lt100.new.self) _ _ c.args.number (omega (arith, many)) c.ranges.number.fits before ones
    c.push-then-number-lt100-2.ensures.bytes)

pub returns : goal.returns
returns c =
    let space = c.in_ok-push.ensures.bytes ∙ ap (λ more. string_bytes c.args.text.now ++ more) (c.in_ok-push.ensures.ascii (omega arith)) in
    spaced_digits c.push_digits.result (string_bytes c.args.text.now) (string_bytes c.push.new.self) _ c.args.number space c.push_digits.ensures
