use Rattle.std.proofs.{Common.{◌∙◌, codes, refl}, lemmas.Bool.false≢true}
use Rattle.clap.specs.Words.{found_of, rows_of, subcommand_rows_of}
use Rattle.tq_cli.specs.TqdWords.{AreOptions}
use Rattle.tq_cli.proofs.{CommandLaws.name_found, RuleLaws.found_as, TqdLaws.{last_rows, no_other}}
use Rattle.tq_cli.proofs.tqd_words.TqdWords.of_last.Goals as goal

pub options_of-requires : goal.options_of-requires
options_of-requires c = last_rows (subcommand_rows_of c.args.matches.now) (rows_of (found_of c.in-Some.desk.now)) c.requires c.in-Some.ensures.rows

pub options_of-requires-in-Some-subcommand_matches : goal.options_of-requires-in-Some-subcommand_matches
options_of-requires-in-Some-subcommand_matches c = last_rows (subcommand_rows_of c.args.matches.now) (rows_of (found_of c.in-Some-subcommand_matches.view.now)) c.requires c.in-Some-subcommand_matches.ensures.rows

pub unreachable-requires : goal.unreachable-requires
unreachable-requires c =
    no_other (subcommand_rows_of c.args.matches.now) _ c.requires (name_found c.args.matches.now)
    (λ named. absurd (false≢true (c.in_default.ensures.found.1 named)))
    (λ named. absurd (false≢true (c.in-None.ensures.found.1 named)))

pub returns-in-Some : goal.returns-in-Some
returns-in-Some c =
    found_as (codes "desk") (λ rows. AreOptions rows c.options_of.result) (subcommand_rows_of c.args.matches.now) (rows_of (found_of c.in-Some.desk.now)) (name_found c.args.matches.now ∙ c.in-Some.ensures.found.0 refl) c.in-Some.ensures.rows c.options_of.ensures

pub returns : goal.returns
returns c =
    found_as (codes "view") (λ rows. AreOptions rows c.options_of-in-Some-subcommand_matches.result) (subcommand_rows_of c.args.matches.now) (rows_of (found_of c.in-Some-subcommand_matches.view.now)) (name_found c.args.matches.now ∙ c.in-Some-subcommand_matches.ensures.found.0 refl) c.in-Some-subcommand_matches.ensures.rows c.options_of-in-Some-subcommand_matches.ensures
