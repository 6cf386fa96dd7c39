use Rattle.std.proofs.Common.{◌≡◌, ℕ, codes, Some, arith, sym, ◌∙◌, subst}
use Rattle.std.specs.Str.Parse.{ParsesUnsigned, ExplainsUnsignedError, HasUnsignedDigitsIfOk}
use Rattle.clap.specs.Words.{found_of, rows_of}
use Rattle.tq_cli.{specs.Command.IsGiven, proofs.CommandLaws.number_read}
use Rattle.tq_cli.proofs.tqd_words.number_of.Goals as goal

pub unreachable-requires : goal.unreachable-requires
unreachable-requires c =
    let read = number_read _ (λ bs r. ParsesUnsigned 32 10 bs r × ExplainsUnsignedError 10 bs r × HasUnsignedDigitsIfOk bs r) 32 (found_of c.args.matches.now) (codes "server") 1 1023 c.get_one.result
    c.requires c.get_one.ensures.value (λ text result given. given.0) (omega arith) in
    let both = sym c.in-None.is ∙ read.1 in
    cc

pub returns : goal.returns
returns c =
    let read = number_read _ (λ bs r. ParsesUnsigned 32 10 bs r × ExplainsUnsignedError 10 bs r × HasUnsignedDigitsIfOk bs r) 32 (found_of c.args.matches.now) (codes "server") 1 1023 c.get_one.result
    c.requires c.get_one.ensures.value (λ text result given. given.0) (omega arith) in
    let same : Some read.0 ≡ Some c.in-Some.number = sym read.1 ∙ c.in-Some.is in
    let number : read.0 ≡ c.in-Some.number = cc in
    subst (λ (n : ℕ). IsGiven (codes "server") (rows_of (found_of c.args.matches.now)) n) number read.4
