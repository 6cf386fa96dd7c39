use Rattle.std.proofs.Common.{◌≡◌, rules}
use Rattle.tq_cluster.proofs.Closing.{desk_legal}
use Rattle.tq_cluster.proofs.journals.desk_journal.Goals as goal

pub returns-clause-legal : goal.returns-clause-legal
returns-clause-legal c =
    let s = c.args.held.part in
    let same_levels : s.levels ≡ c.args.levels = search rules in
    let same_limits : s.limits ≡ c.args.limits = search rules in
    desk_legal s c.args.levels c.args.limits c.into_entries-journal.result.items same_levels same_limits c.into_entries-journal.ensures.legal
