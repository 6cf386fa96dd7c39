use Rattle.std.proofs.Common.{◌≡◌, ◌∙◌, None, Some, Option, List, codes, refl, sym, ap, subst}
use Rattle.std.specs.Prelude.{option_map}
use Rattle.clap.{proofs.WalkLemmas.typed_values-rows, specs.Words.{Text, found_of, many_of, rows_of, values_left}}
use Rattle.tq_cli.specs.TqdWords.{AreLimits, HasLimits}
use Rattle.tq_cli.proofs.tqd_words.limits_of.Goals as goal

pub limits_in-requires : goal.limits_in-requires
limits_in-requires c =
    let given : Some (values_left c.in-Some.numbers) ≡ many_of (codes "limits") (rows_of (found_of c.args.matches.now)) =
    ap (option_map values_left) (sym c.in-Some.is) ∙ c.get_many.ensures ∙ typed_values-rows (found_of c.args.matches.now) (codes "limits") in
    subst HasLimits (sym given) c.requires

pub returns-in-Some : goal.returns-in-Some
returns-in-Some c =
    let given : Some (values_left c.in-Some.numbers) ≡ many_of (codes "limits") (rows_of (found_of c.args.matches.now)) =
    ap (option_map values_left) (sym c.in-Some.is) ∙ c.get_many.ensures ∙ typed_values-rows (found_of c.args.matches.now) (codes "limits") in
    subst (λ (all : Option (List Text)). AreLimits all c.limits_in.result) given c.limits_in.ensures

pub returns-in-None : goal.returns-in-None
returns-in-None c =
    let given : None ≡ many_of (codes "limits") (rows_of (found_of c.args.matches.now)) =
    ap (option_map values_left) (sym c.in-None.is) ∙ c.get_many.ensures ∙ typed_values-rows (found_of c.args.matches.now) (codes "limits") in
    rw (← given) (refl, refl, refl)
