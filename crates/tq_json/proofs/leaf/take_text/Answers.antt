use Rattle.std.proofs.Common.{refl, ap, ◌∙◌}
use Rattle.serde_json.specs.Data.{string}
use Rattle.tq_json.{specs.Next.next, proofs.Nexts.next-string}
use Rattle.tq_json.proofs.leaf.take_text.Goals as goal

pub returns-in-Some-clause-ok : goal.returns-in-Some-clause-ok
returns-in-Some-clause-ok c =
    (string c.in-Some.text.now, ap (next c.args.depth) c.in-Some.ensures ∙ next-string c.args.depth c.in-Some.text.now c.take_string.new.self, refl)
