use Rattle.std.proofs.Common.{[], ◌∙◌}
use Rattle.json.specs.Print.{escape_byte}
use Rattle.tq_board.{specs.Lines.answer_value, proofs.{Gathered.added, ReadBack.is-line}}
use Rattle.tq_board.proofs.entry_line.answer_to_json.Goals as goal

pub returns-clause-text : goal.returns-clause-text
unfolding escape_byte
returns-clause-text g c =
    let value = added c.in_ok-put_after.ensures.adds (added c.in_ok-put_after-2.ensures.adds c.in_ok-push.ensures) in
    c.into_string.ensures ∙ (added value c.in_ok-push-2.ensures).after [] [] c.new-out.ensures

pub returns-clause-whole : goal.returns-clause-whole
returns-clause-whole g c =
    is-line (answer_value g.R.ToJson.value c.args.number c.args.reply.now) _ (c.in_ok-put_after.ensures.fits, (c.in_ok-put_after-2.ensures.fits, tt)) (returns-clause-text g c)
