use Rattle.std.{proofs.Common.{◌≡◌, ◌∙◌, Some, None, sym, ap}, specs.Prelude.option_map}
use Rattle.clap.{proofs.WalkLemmas.first_value-rows, specs.Words.found_of}
use Rattle.tq_cli.proofs.tqd_words.text_in.Goals as goal

pub unreachable-requires : goal.unreachable-requires
unreachable-requires c =
    let given = ap (option_map (λ s. s.now)) (sym c.in-None.is) ∙ c.get_str.ensures ∙ first_value-rows (found_of c.args.matches.now) c.args.name.now ∙ c.requires.1 in
    let none : None ≡ Some c.requires.0 = given in
    cc

pub returns : goal.returns
returns c =
    sym (first_value-rows (found_of c.args.matches.now) c.args.name.now) ∙ sym c.get_str.ensures ∙ ap (option_map (λ s. s.now)) c.in-Some.is
