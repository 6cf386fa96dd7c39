use Rattle.std.proofs.Common.{Some, ◌∙◌}
use Rattle.serde_json.specs.Data.{Data}
use Rattle.tq_json_read.proofs.{Held.listed-journal, Places.found_as}
use Rattle.tq_json_read.proofs.file.SeqFromReader.read.Goals as goal

pub returns-clause-ok : goal.returns-clause-ok
returns-clause-ok g c =
    found_as c.take_list.result _ _ _ _ (λ d x is. is ∙ listed-journal (λ (value : Data). g.T.FromReader.at c.args.plan.now (Some value)) c.args.plan.now.limit d) c.take_list.ensures.ok
