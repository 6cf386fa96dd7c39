use Rattle.std.proofs.Common.{◌∙◌, ap, sym}
use Rattle.tq_node.specs.Node.{NodeView}
use Rattle.tq_cluster.proofs.Closing.{node_legal}
use Rattle.tq_cluster.proofs.journals.server_journal.Goals as goal

pub returns-clause-legal : goal.returns-clause-legal
returns-clause-legal c =
    let s = c.args.held.part in
    let there = c.number-there.ensures.value ∙ c.server.ensures.number ∙ ap (λ (n : NodeView). n.server) c.part.ensures.part in
    node_legal s.levels s.server c.args.number c.into_entries-journal.result.items (sym there ∙ c.if-there-number.false) c.into_entries-journal.ensures.legal
