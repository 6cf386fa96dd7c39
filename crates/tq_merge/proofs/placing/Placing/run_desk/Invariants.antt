use Rattle.std.proofs.Common.{◌≡◌, ◌≤◌}
use Rattle.tq_merge.specs.Placing.{entries_left}
use Rattle.tq_merge.proofs.placing.Placing.run_desk.Given as goal

-- no more entries are left than at first
abbrev pub invariant-entries : goal.invariant-entries
invariant-entries l = (l.self.journals ≡ l.initial.self.journals) × (entries_left l.self.journals l.self.order ≤ entries_left l.initial.self.journals l.initial.self.order)

abbrev pub decreases-entries : goal.decreases-entries
decreases-entries l = entries_left l.self.journals l.self.order
