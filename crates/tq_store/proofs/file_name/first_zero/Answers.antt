use Rattle.std.proofs.{Common.{eqb, sym, arith, rules}, lemmas.List.Sums.position_or_len_is}
use Rattle.tq_store.proofs.file_name.first_zero.Goals as goal

pub returns-then-bytes-at-eq0-clause-value : goal.returns-then-bytes-at-eq0-clause-value
returns-then-bytes-at-eq0-clause-value c = sym (position_or_len_is (λ x. eqb x 0) c.args.bytes.now c.loop-at.at 0 c.loop-at.invariant.0 c.loop-at.invariant.1 (λ _. search rules))

pub returns-clause-value : goal.returns-clause-value
returns-clause-value c = sym (position_or_len_is (λ x. eqb x 0) c.args.bytes.now c.loop-at.at 0 c.loop-at.invariant.0 c.loop-at.invariant.1 (λ h. absurd (omega (arith, c.loop-at-test.false))))
