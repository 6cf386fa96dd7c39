use Rattle.json.specs.Reads.{token_of}
use Rattle.tq_json.proofs.Nexts.{some_left, alone}
use Rattle.tq_json.proofs.passing.pass_rest.Goals as goal

pub returns-in_default-clause-ok : goal.returns-in_default-clause-ok
returns-in_default-clause-ok c =
    some_left _ c.args.reader.now (alone (token_of c.args.token) c.in_ok-kind.field-0 c.in_ok-kind.ensures.ok c.in_default.not-Some c.args.depth c.args.reader.now)
