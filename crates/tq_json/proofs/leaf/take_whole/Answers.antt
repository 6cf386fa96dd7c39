use Rattle.std.proofs.Common.{Some, ap, ◌∙◌}
use Rattle.serde_json.specs.Data.{number}
use Rattle.tq_json.{specs.Next.next, proofs.{Contents.few_found, Nexts.next-number}}
use Rattle.tq_json.proofs.leaf.take_whole.Goals as goal

pub returns-in-Some-clause-ok : goal.returns-in-Some-clause-ok
returns-in-Some-clause-ok c =
    let f = c.in-Some.ensures in
    let n = few_found f.0 f.2 f.3 f.4 in
    (number n.0, ap (next c.args.depth) f.1 ∙ next-number c.args.depth f.0 c.take_digits.new.self n.0 n.1, ap Some f.5 ∙ n.2)
