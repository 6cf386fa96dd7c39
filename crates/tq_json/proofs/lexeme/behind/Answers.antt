use Rattle.std.proofs.{Common.{ap, ◌∙◌}, lemmas.Str.IsCharBoundary-after_ascii}
use Rattle.json.specs.Lex.{between, lex}
use Rattle.tq_json.proofs.Lexemes.{mark_over, mark_some, mark_ascii}
use Rattle.tq_json.proofs.lexeme.behind.Goals as goal

pub range_from-requires : goal.range_from-requires
range_from-requires c some =
    let d = c.args.text.now in
    IsCharBoundary-after_ascii d 0 c.utf8.text (mark_some d c.requires) (mark_ascii d c.requires)

pub returns-clause-same : goal.returns-clause-same
returns-clause-same c = c.after_spaces.ensures.same ∙ ap (lex between) c.range_from.ensures.value ∙ mark_over c.args.text.now c.requires
