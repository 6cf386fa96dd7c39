use Rattle.std.{proofs.Common.{◌≡◌, ◌∷◌, None, ap, ◌∙◌}, specs.Option.option_and_then}
use Rattle.json.specs.Reads.{token_of}
use Rattle.serde_json.specs.Find.{as_number, as_u64}
use Rattle.tq_json.{specs.Next.next, proofs.Nexts.{next-no_number, number_answered, other_value, number_alone}}
use Rattle.tq_json.proofs.leaf.other_whole.Goals as goal

pub returns-in_default-clause-ok : goal.returns-in_default-clause-ok
returns-in_default-clause-ok c =
    other_value (λ x. None ≡ option_and_then as_u64 (as_number x)) c.in_ok-token.token c.args.depth c.args.reader.now c.take_token.new.reader c.pass_rest.new.reader
    c.in_ok-token.ensures.ok (number_alone c.in_ok-token.token c.in_default.not-Number) c.in_ok-pass_rest.ensures.ok

pub returns-clause-ok : goal.returns-clause-ok
returns-clause-ok c =
    let is = c.in_ok-token.ensures.ok ∙ ap (λ k. token_of k ∷ c.take_token.new.reader) c.in-Number.is in
    number_answered c.whole_in.result _ _ c.args.depth c.in-Number.text.now c.take_token.new.reader (next c.args.depth c.args.reader.now) (ap (next c.args.depth) is) (λ n x h. h) c.whole_in.ensures.ok

pub returns-clause-err : goal.returns-clause-err
returns-clause-err c refused =
    let is = c.in_ok-token.ensures.ok ∙ ap (λ k. token_of k ∷ c.take_token.new.reader) c.in-Number.is in
    ap (next c.args.depth) is ∙ next-no_number c.args.depth c.in-Number.text.now c.take_token.new.reader (c.whole_in.ensures.err refused)
