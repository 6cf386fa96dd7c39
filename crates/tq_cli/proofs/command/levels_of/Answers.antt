use Rattle.std.proofs.Common.{◌≡◌, ℕ, codes, Some, arith, sym, ◌∙◌, subst}
use Rattle.std.specs.Str.Parse.{ParsesUnsigned, ExplainsUnsignedError, HasUnsignedDigitsIfOk}
use Rattle.clap.specs.Words.{found_of, rows_of}
use Rattle.tq_cli.{specs.Command.IsGiven, proofs.CommandLaws.number_read}
use Rattle.tq_cli.proofs.command.levels_of.Goals as goal

pub unreachable-requires : goal.unreachable-requires
unreachable-requires c =
    let read = number_read _ (λ bs r. ParsesUnsigned 32 10 bs r × ExplainsUnsignedError 10 bs r × HasUnsignedDigitsIfOk bs r) 32 (found_of c.args.matches.now) (codes "levels") 1 10 c.get_one.result
    c.requires c.get_one.ensures.value (λ text result given. given.0) (omega arith) in
    c.in_default.not-Some read.0 read.1

pub unreachable-requires-in-None : goal.unreachable-requires-in-None
unreachable-requires-in-None c =
    let read = number_read _ (λ bs r. ParsesUnsigned 32 10 bs r × ExplainsUnsignedError 10 bs r × HasUnsignedDigitsIfOk bs r) 32 (found_of c.args.matches.now) (codes "levels") 1 10 c.get_one.result
    c.requires c.get_one.ensures.value (λ text result given. given.0) (omega arith) in
    let same : Some read.0 ≡ Some c.in-Some.count = sym read.1 ∙ c.in-Some.is in
    let number : read.0 ≡ c.in-Some.count = cc in
    c.in-None.ensures (omega (arith, number, read.2), omega (arith, number, read.3))

pub returns : goal.returns
returns c =
    let read = number_read _ (λ bs r. ParsesUnsigned 32 10 bs r × ExplainsUnsignedError 10 bs r × HasUnsignedDigitsIfOk bs r) 32 (found_of c.args.matches.now) (codes "levels") 1 10 c.get_one.result
    c.requires c.get_one.ensures.value (λ text result given. given.0) (omega arith) in
    let same : Some read.0 ≡ Some c.in-Some.count = sym read.1 ∙ c.in-Some.is in
    let number : read.0 ≡ c.in-Some.count = cc in
    let levels : read.0 ≡ c.in-Some-new.levels = number ∙ sym c.in-Some-new.ensures.1 in
    subst (λ (n : ℕ). IsGiven (codes "levels") (rows_of (found_of c.args.matches.now)) n) levels read.4
