use Rattle.std.proofs.Common.{arith}
use Rattle.tq_json.proofs.Nexts.{key_taken, bracket_taken, no_key}
use Rattle.tq_json.proofs.passing.take_end.Goals as goal

pub returns-in_err-next_key-clause-err : goal.returns-in_err-next_key-clause-err
returns-in_err-next_key-clause-err c refused = rw c.if-kind.true (no_key c.args.reader.now (c.in_err-next_key.ensures.err (grind arith)))

pub returns-then-kind-clause-ok : goal.returns-then-kind-clause-ok
returns-then-kind-clause-ok c =
    rw c.if-kind.true (key_taken c.in_ok-next_key.field-0 c.is_none.result c.args.reader.now c.next_key.new.self c.in_ok-next_key.ensures.ok c.is_none.ensures)

pub returns-clause-ok : goal.returns-clause-ok
returns-clause-ok c = rw c.if-kind.false (bracket_taken c.take_end_array.result c.args.reader.now c.take_end_array.new.self c.take_end_array.ensures)
