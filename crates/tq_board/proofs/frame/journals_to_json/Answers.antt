use Rattle.std.proofs.{Common.{[], ◌∙◌}, lemmas.Str.IsUtf8-string_bytes}
use Rattle.tq_board.proofs.Laws.{text-again}
use Rattle.tq_board.proofs.frame.journals_to_json.Goals as goal

pub returns-clause-text : goal.returns-clause-text
returns-clause-text c = c.into_string.ensures ∙ c.in_ok-put_line.ensures.adds.after [] [] c.new-out.ensures

pub returns-clause-back : goal.returns-clause-back
returns-clause-back c =
    text-again c.args.journals.now _ (IsUtf8-string_bytes c.into_string.result) (returns-clause-text c) c.in_ok-put_line.ensures.fits c.in_ok-put_line.ensures.kept
