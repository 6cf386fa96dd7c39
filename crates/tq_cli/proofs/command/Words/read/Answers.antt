use Rattle.std.proofs.Common.{◌≡◌, ◌∙◌, List, Option, [], sym, ap, subst}
use Rattle.clap.specs.{Kinds.HasKind, Words.{App, Row, Text, fault_of, is_simple, is_simple_and_free, subcommand_of}}
use Rattle.tq_cli.{specs.Command.{AsksFor, CanAsk, texts_of, tq_app}, proofs.CommandLaws.{can_ask, refused_by}}
use Rattle.tq_cli.proofs.command.Words.read.Goals as goal

pub of-requires : goal.of-requires
of-requires c =
    let words = texts_of c.args.words.now in
    let app = c.in_ok-command.ensures in
    let P : App → Type 0 = λ a. fault_of a words ≡ [] in
    let clean = subst P app (c.in_ok-matches.ensures.kinds (ap is_simple_and_free app)) in
    let found = (c.in_ok-matches.ensures.matches (ap is_simple app)).1 ∙ ap (λ a. subcommand_of a words) app in
    subst CanAsk (sym found) (can_ask words clean)

pub returns-clause-read : goal.returns-clause-read
returns-clause-read c =
    let words = texts_of c.args.words.now in
    let app = c.in_ok-command.ensures in
    let P : App → Type 0 = λ a. fault_of a words ≡ [] in
    let clean = subst P app (c.in_ok-matches.ensures.kinds (ap is_simple_and_free app)) in
    let found = (c.in_ok-matches.ensures.matches (ap is_simple app)).1 ∙ ap (λ a. subcommand_of a words) app in
    let Q : Option (Text × List Row) → Type 0 = λ f. AsksFor f c.of.result in
    (clean, subst Q found c.of.ensures)

pub returns-in_err-matches-clause-refused : goal.returns-in_err-matches-clause-refused
returns-in_err-matches-clause-refused c =
    let words = texts_of c.args.words.now in
    let app = c.in_ok-command.ensures in
    let error = c.in_err-matches.field-0.0 in
    let P : App → Type 0 = λ a. HasKind (fault_of a words) error in
    let has = subst P app (c.in_err-matches.ensures.kinds (ap is_simple_and_free app)) in
    refused_by tq_app words error c.from_residual-in_err-matches.result has c.from_residual-in_err-matches.ensures.1
