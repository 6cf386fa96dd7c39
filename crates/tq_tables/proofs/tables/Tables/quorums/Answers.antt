use Rattle.std.proofs.Common.{◌+◌, ◌^◌, List, length, ap, ◌∙◌}
use Rattle.tq_live.specs.Live.{Live}
use Rattle.tq_tables.specs.{Parts.PartsView, declared.quorum_rows.QuorumRow.QuorumRow, Tables.TablesView}
use Rattle.tq_tables.proofs.Restood.{length-quorum_rows}
use Rattle.tq_tables.proofs.tables.Tables.quorums.Goals as goal

pub returns-clause-one_each : goal.returns-clause-one_each
returns-clause-one_each c =
    ap (λ (rows : List QuorumRow). length rows + 1) c.in_ok-rows.ensures
    ∙ length-quorum_rows c.tree.result.now
    ∙ ap (λ (l : Live). 2 ^ l.levels) (c.tree.ensures ∙ c.view.ensures ∙ ap (λ (p : PartsView). p.view) c.deref.ensures)
    ∙ ap (λ (t : TablesView). 2 ^ t.levels) c.self.view_is
