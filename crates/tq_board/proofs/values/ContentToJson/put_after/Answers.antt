use Rattle.std.proofs.Common.{◌++◌, rules, ap, subst, ◌∙◌}
use Rattle.json.specs.Print.{quoted}
use Rattle.hex.specs.Hex.{encode_lower}
use Rattle.tq_board.{specs.Lines.Adds, proofs.{Gathered.as-quoted, ReadBack.digits-escaped}}
use Rattle.tq_board.proofs.values.ContentToJson.put_after.Goals as goal

pub returns-clause-adds : goal.returns-clause-adds
returns-clause-adds g c =
    let bytes = c.as_bytes-bytes.result.now in
    let same = as-quoted (encode_lower bytes) (digits-escaped bytes (search rules)) ∙ ap (λ b. quoted (encode_lower b)) c.as_bytes-bytes.ensures.value in
    subst (λ text. Adds g.O.Out.puts c.push_digits.result c.args.out.now c.push_digits.new.self (c.args.piece.now ++ text)) same c.push_digits.ensures
