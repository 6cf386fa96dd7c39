use Rattle.std.proofs.Common.{◌∙◌, refl}
use Rattle.clap.specs.Words.{subcommand_rows_of}
use Rattle.tq_cli.proofs.CommandLaws.{audit_given, name_found}
use Rattle.tq_cli.proofs.command.Words.beside_threads.Goals as goal

pub returns-in-Some : goal.returns-in-Some
returns-in-Some c = audit_given (subcommand_rows_of c.args.matches.now) c.requires (name_found c.args.matches.now ∙ c.in-Some.ensures.found.0 refl)
