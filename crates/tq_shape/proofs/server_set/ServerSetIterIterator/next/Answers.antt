use Rattle.std.proofs.Common.{rules, ◌≡◌, [], ◌+◌, ◌-◌, ap, sym, ◌∙◌, arith, bit_and}
use Rattle.tq_shape.specs.ServerSet.{servers_of_numbers}
use Rattle.tq_shape.proofs.SetWords.{AreLeft-skip, left-end, left-skip, next-left, next_servers}
use Rattle.tq_shape.proofs.server_set.ServerSetIterIterator.next.Goals as goal

none : (c : goal.After-from_residual) → c.args.self.now ≡ []
none c =
    rw (← c.self.view_is)
    (ap (servers_of_numbers c.self.inside.levels)
    (sym c.loop-word.invariant.same ∙ left-end c.loop-word.base c.loop-word.word c.loop-word.rest.now c.loop-word-test.true c.in_err-next.ensures.cases))

pub returns-in_err-next-clause-steps : goal.returns-in_err-next-clause-steps
returns-in_err-next-clause-steps c = rw c.from_residual.ensures (none c, none c)

pub loop-word-preserved : goal.loop-word-preserved
loop-word-preserved c = record {
  left = AreLeft-skip c.self.inside.levels c.loop-word.base c.loop-word.word c.in_ok-next.next.now c.loop-word.rest.now c.in_ok-next.behind.now
      c.loop-word-test.true c.in_ok-next.ensures.cases.0 c.loop-word.invariant.left;
  same = sym (left-skip c.loop-word.base c.loop-word.word c.in_ok-next.next.now c.loop-word.rest.now c.in_ok-next.behind.now c.loop-word-test.true c.in_ok-next.ensures.cases.0)
      ∙ c.loop-word.invariant.same;
}

pub new-requires : goal.new-requires
new-requires c =
    (next-left c.self.inside.levels c.self.inside.base c.self.inside.word c.from.result c.self.inside.rest.now c.self.invariant (omega (arith, c.if-here-ne0.true)) (omega arith) c.from.ensures).server

pub invariant_of-self : goal.invariant_of-self
invariant_of-self c =
    (next-left c.self.inside.levels c.self.inside.base c.self.inside.word c.from.result c.self.inside.rest.now c.self.invariant (omega (arith, c.if-here-ne0.true)) (omega arith) c.from.ensures).left

pub returns-then-here-ne0-clause-steps : goal.returns-then-here-ne0-clause-steps
returns-then-here-ne0-clause-steps c =
    let next = next-left c.self.inside.levels c.self.inside.base c.self.inside.word c.from.result c.self.inside.rest.now c.self.invariant (omega (arith, c.if-here-ne0.true)) (omega arith) c.from.ensures in
    rw (← c.self.view_is)
    (next_servers c.self.inside.levels c.self.inside.base c.self.inside.word (c.self.inside.base + c.from.result) (bit_and c.self.inside.word (c.self.inside.word - 1)) c.self.inside.rest.now c.new.result next.is c.new.ensures)

pub returns-then-here-ne0-clause-goes : goal.returns-then-here-ne0-clause-goes
returns-then-here-ne0-clause-goes c = rw (returns-then-here-ne0-clause-steps c) (search rules)

pub new-requires-2 : goal.new-requires-2
new-requires-2 c =
    (next-left c.self.inside.levels c.loop-word.base c.loop-word.word c.from-2.result c.loop-word.rest.now c.loop-word.invariant.left (omega (arith, c.loop-word-test.false)) (omega arith) c.from-2.ensures).server

pub invariant_of-self-2 : goal.invariant_of-self-2
invariant_of-self-2 c =
    (next-left c.self.inside.levels c.loop-word.base c.loop-word.word c.from-2.result c.loop-word.rest.now c.loop-word.invariant.left (omega (arith, c.loop-word-test.false)) (omega arith) c.from-2.ensures).left

pub returns-clause-steps : goal.returns-clause-steps
returns-clause-steps c =
    let next = next-left c.self.inside.levels c.loop-word.base c.loop-word.word c.from-2.result c.loop-word.rest.now c.loop-word.invariant.left (omega (arith, c.loop-word-test.false)) (omega arith) c.from-2.ensures in
    rw (← c.self.view_is)
    (ap (servers_of_numbers c.self.inside.levels) (sym c.loop-word.invariant.same)
    ∙ next_servers c.self.inside.levels c.loop-word.base c.loop-word.word (c.loop-word.base + c.from-2.result) (bit_and c.loop-word.word (c.loop-word.word - 1)) c.loop-word.rest.now c.new-2.result next.is c.new-2.ensures)

pub returns-clause-goes : goal.returns-clause-goes
returns-clause-goes c = rw (returns-clause-steps c) (search rules)
