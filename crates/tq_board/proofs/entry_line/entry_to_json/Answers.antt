use Rattle.std.proofs.Common.{[], ◌∙◌}
use Rattle.tq_shape.specs.Journal.{entry}
use Rattle.tq_board.{specs.Values.entry_value, proofs.{Gathered.added, ReadBack.is-line}}
use Rattle.tq_board.proofs.entry_line.entry_to_json.Goals as goal

pub returns-clause-text : goal.returns-clause-text
returns-clause-text g c = c.into_string.ensures ∙ (added c.in_ok-put_entry.ensures.adds c.in_ok-push.ensures).after [] [] c.new-out.ensures

pub returns-clause-whole : goal.returns-clause-whole
returns-clause-whole g c =
    is-line (entry_value g.A.ToJson.value g.R.ToJson.value (entry c.args.ask.now c.args.reply.now)) _ c.in_ok-put_entry.ensures.fits (returns-clause-text g c)
