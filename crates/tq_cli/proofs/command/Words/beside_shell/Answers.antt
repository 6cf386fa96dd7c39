use Rattle.std.proofs.Common.{◌∙◌, refl}
use Rattle.clap.specs.Words.{found_of, rows_of, subcommand_rows_of}
use Rattle.tq_cli.proofs.CommandLaws.{name_found, threads_given}
use Rattle.tq_cli.proofs.command.Words.beside_shell.Goals as goal

pub workers_of-requires : goal.workers_of-requires
workers_of-requires c =
    let name = name_found c.args.matches.now ∙ c.in-Some.ensures.found.0 refl in
    (threads_given (subcommand_rows_of c.args.matches.now) (rows_of (found_of c.in-Some.threads.now)) c.requires name c.in-Some.ensures.rows).1

pub rounds_of-requires : goal.rounds_of-requires
rounds_of-requires c =
    let name = name_found c.args.matches.now ∙ c.in-Some.ensures.found.0 refl in
    (threads_given (subcommand_rows_of c.args.matches.now) (rows_of (found_of c.in-Some.threads.now)) c.requires name c.in-Some.ensures.rows).2
