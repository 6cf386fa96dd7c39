use Rattle.std.proofs.Common.{◌≡◌, ◌∷◌, None, ap, ◌∙◌, arith}
use Rattle.json.specs.Reads.{token_of}
use Rattle.serde_json.specs.Find.{as_array}
use Rattle.tq_json.{specs.Next.next, proofs.Nexts.{next-too_deep-array, next_begin_array, other_value, array_alone}}
use Rattle.tq_json.proofs.opening.other_array.Goals as goal

pub returns-in_default-clause-ok : goal.returns-in_default-clause-ok
returns-in_default-clause-ok c =
    other_value (λ x. as_array x ≡ None) c.in_ok-token.token c.args.depth c.args.reader.now c.take_token.new.reader c.pass_rest.new.reader
    c.in_ok-token.ensures.ok (array_alone c.in_ok-token.token c.in_default.not-BeginArray) c.in_ok-pass_rest.ensures.ok

pub returns-then-depth-eq0-clause-err : goal.returns-then-depth-eq0-clause-err
returns-then-depth-eq0-clause-err c refused =
    let is = c.in_ok-token.ensures.ok ∙ ap (λ k. token_of k ∷ c.take_token.new.reader) c.in-BeginArray.is in
    ap (next c.args.depth) is ∙ next-too_deep-array c.args.depth c.take_token.new.reader (omega arith)

pub returns-clause-ok : goal.returns-clause-ok
returns-clause-ok c =
    let is = c.in_ok-token.ensures.ok ∙ ap (λ k. token_of k ∷ c.take_token.new.reader) c.in-BeginArray.is in
    (omega arith, ap (next c.args.depth) is ∙ next_begin_array c.args.depth c.take_token.new.reader (omega arith))
