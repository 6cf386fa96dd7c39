use Rattle.std.proofs.Common.{ap, ◌∙◌}
use Rattle.tq_json_read.{specs.{Frame.{node_entry, journal}, Slots.{of_count, kept}}, proofs.Held.counted-listed}
use Rattle.tq_json_read.proofs.file.ServerJournalsFromReader.read.Goals as goal

pub returns-clause-ok : goal.returns-clause-ok
returns-clause-ok c =
    let d = c.in_ok-lists.ensures.ok in
    let plan = c.args.plan.now in
    let n = c.servers-servers.result in
    let same = ap (of_count n) d.2 ∙ counted-listed (journal (node_entry plan.format) plan.limit) n plan.levels d.0 c.servers-servers.ensures.value in
    (d.0, d.1, c.one_each.ensures ∙ ap kept same)
