use Rattle.std.proofs.Common.{rules}
use Rattle.tq_text.proofs.Extended.{extends_more}
use Rattle.tq_text.proofs.print.push_numbers.Goals as goal

pub returns-in_err-push_spaced-clause-kept : goal.returns-in_err-push_spaced-clause-kept
returns-in_err-push_spaced-clause-kept c =
    let kept = extends_more _ _ _ c.loop-number.invariant.1 c.in_err-push_spaced.ensures.kept in
    search rules
