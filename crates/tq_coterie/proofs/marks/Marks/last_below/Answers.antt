use Rattle.std.proofs.{Common.{◌-◌, ◌*◌, ◌^◌, ◌%◌, arith}, lemmas.Nat.{one_shl, and_le_l, leading_top}}
use Rattle.tq_coterie.proofs.Marked.{looked-first, looked-more, looked-last}
use Rattle.tq_coterie.proofs.marks.Marks.last_below.Goals as goal

pub loop-word-init : goal.loop-word-init
loop-word-init c =
    let is = one_shl (c.args.server % 64) 64 (omega arith) in
    record {
      within = omega (arith, c.requires.within);
      small = omega (arith, c.word.type_inv, and_le_l c.word.result (1 * 2 ^ (c.args.server % 64) % 2 ^ 64 - 1));
      looked = rw (c.word.ensures, is) (looked-first c.args.self.now.words c.args.server);
    }

pub loop-word-preserved : goal.loop-word-preserved
loop-word-preserved c = record {
  within = omega (arith, c.loop-word.invariant.within);
  small = c.word-word.type_inv;
  looked = looked-more c.args.self.now.words c.args.server c.loop-word.place c.loop-word.word c.word-word.result c.loop-word.invariant.looked
      c.loop-word-test.true (omega (arith, c.if-place-eq0.false)) c.word-word.ensures c.word-word.type_inv;
}

pub overflow_sub-result : goal.overflow_sub-result
overflow_sub-result c = omega (arith, (leading_top 64 c.loop-word.word (omega (arith, c.loop-word-test.false)) c.loop-word.invariant.small).1)

pub returns : goal.returns
returns c =
    let found = looked-last c.args.self.now.words c.args.server c.loop-word.place c.loop-word.word c.loop-word.invariant.looked (omega (arith, c.loop-word-test.false)) c.loop-word.invariant.small in
    record { below = found.below; last = found.last }
