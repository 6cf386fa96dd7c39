use Rattle.std.proofs.Common.{◌≡◌, ◌∷◌, None, refl, ap, ◌∙◌}
use Rattle.json.specs.Reads.{token_of}
use Rattle.serde_json.specs.{Data.string, Find.as_str}
use Rattle.tq_json.{specs.Next.next, proofs.Nexts.{next-string, other_value, text_alone}}
use Rattle.tq_json.proofs.leaf.other_text.Goals as goal

pub returns-in_default-clause-ok : goal.returns-in_default-clause-ok
returns-in_default-clause-ok c =
    other_value (λ x. None ≡ as_str x) c.in_ok-token.token c.args.depth c.args.reader.now c.take_token.new.reader c.pass_rest.new.reader
    c.in_ok-token.ensures.ok (text_alone c.in_ok-token.token c.in_default.not-String) c.in_ok-pass_rest.ensures.ok

pub returns-clause-ok : goal.returns-clause-ok
returns-clause-ok c =
    let is = c.in_ok-token.ensures.ok ∙ ap (λ k. token_of k ∷ c.take_token.new.reader) c.in-String.is in
    (string c.in-String.text.now, ap (next c.args.depth) is ∙ next-string c.args.depth c.in-String.text.now c.take_token.new.reader, refl)
