use Rattle.std.proofs.Common.{codes, arith}
use Rattle.std.specs.Str.Parse.{ParsesUnsigned, ExplainsUnsignedError, HasUnsignedDigitsIfOk}
use Rattle.clap.specs.Words.{found_of}
use Rattle.tq_cli.proofs.CommandLaws.{number_or_zero_read}
use Rattle.tq_cli.proofs.command.workers_of.Goals as goal

pub returns : goal.returns
returns c = rw c.unwrap_or.ensures (number_or_zero_read _ (λ bs r. ParsesUnsigned 32 10 bs r × ExplainsUnsignedError 10 bs r × HasUnsignedDigitsIfOk bs r) 32 (found_of c.args.matches.now) (codes "workers") 2 c.get_one.result
    c.requires c.get_one.ensures.none c.get_one.ensures.value (λ text result given. given.0) (omega arith))
