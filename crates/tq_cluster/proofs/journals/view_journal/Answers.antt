use Rattle.std.proofs.Common.{rules}
use Rattle.tq_live.specs.{View.IsLegalView, ViewLaws.replies_of_tree}
use Rattle.tq_cluster.proofs.journals.view_journal.Goals as goal

pub returns-clause-of_tree : goal.returns-clause-of_tree
returns-clause-of_tree c =
    let legal : IsLegalView c.args.levels c.into_entries-journal.result.items = search rules in
    replies_of_tree c.args.levels c.into_entries-journal.result.items legal
