use Rattle.std.proofs.Common.{◌≡◌, ◌∷◌, None, refl, ap, ◌∙◌}
use Rattle.json.specs.Reads.{token_of}
use Rattle.serde_json.specs.{Data.boolean, Find.as_bool}
use Rattle.tq_json.{specs.Next.next, proofs.Nexts.{next-boolean, other_value, flag_alone}}
use Rattle.tq_json.proofs.leaf.take_flag.Goals as goal

pub returns-in_default-clause-ok : goal.returns-in_default-clause-ok
returns-in_default-clause-ok c =
    other_value (λ x. None ≡ as_bool x) c.in_ok-token.token c.args.depth c.args.reader.now c.take_token.new.reader c.pass_rest.new.reader
    c.in_ok-token.ensures.ok (flag_alone c.in_ok-token.token c.in_default.not-Bool) c.in_ok-pass_rest.ensures.ok

pub returns-clause-ok : goal.returns-clause-ok
returns-clause-ok c =
    let is = c.in_ok-token.ensures.ok ∙ ap (λ k. token_of k ∷ c.take_token.new.reader) c.in-Bool.is in
    (boolean c.in-Bool.flag, ap (next c.args.depth) is ∙ next-boolean c.args.depth c.in-Bool.flag c.take_token.new.reader, refl)
