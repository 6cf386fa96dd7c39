use Rattle.std.proofs.{Common.{◌∙◌, codes, refl, sym}, lemmas.Bool.false≢true}
use Rattle.clap.specs.Words.{found_of, rows_of, subcommand_rows_of}
use Rattle.tq_cli.specs.{Command.IsGiven, TqdWords.{AreOptions, CanAskLast, CanBeServer}}
use Rattle.tq_cli.proofs.{CommandLaws.name_found, RuleLaws.{found_as, found_else}, TqdLaws.server_rows}
use Rattle.tq_cli.proofs.tqd_words.TqdWords.of_part.Goals as goal

pub number_of-requires : goal.number_of-requires
number_of-requires c =
    let name = name_found c.args.matches.now ∙ c.in-Some.ensures.found.0 refl in
    (server_rows (subcommand_rows_of c.args.matches.now) (rows_of (found_of c.in-Some.server.now)) c.requires name c.in-Some.ensures.rows).0

pub options_of-requires : goal.options_of-requires
options_of-requires c =
    let name = name_found c.args.matches.now ∙ c.in-Some.ensures.found.0 refl in
    (server_rows (subcommand_rows_of c.args.matches.now) (rows_of (found_of c.in-Some.server.now)) c.requires name c.in-Some.ensures.rows).1

pub returns-in-Some : goal.returns-in-Some
returns-in-Some c =
    found_as (codes "server") (λ rows. IsGiven (codes "server") rows c.number_of.result × AreOptions rows c.options_of.result) (subcommand_rows_of c.args.matches.now) (rows_of (found_of c.in-Some.server.now)) (name_found c.args.matches.now ∙ c.in-Some.ensures.found.0 refl) c.in-Some.ensures.rows (c.number_of.ensures, c.options_of.ensures)

pub of_last-requires : goal.of_last-requires
of_last-requires c =
    let found = subcommand_rows_of c.args.matches.now in
    found_else (codes "server") CanBeServer (CanAskLast found) found c.requires (λ named. false≢true (c.in-None.ensures.found.1 (sym (name_found c.args.matches.now) ∙ named)))
