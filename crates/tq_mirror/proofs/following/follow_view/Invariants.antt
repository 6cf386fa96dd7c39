use Rattle.std.proofs.Common.{take}
use Rattle.tq_tables.specs.Journals.{JournalsView}
use Rattle.tq_mirror.{specs.Prefixes.AreKept, proofs.Standing.ViewLed}
use Rattle.tq_mirror.proofs.following.follow_view.Given as goal

-- the tables were asked what the entries so far ask, and gave their replies
abbrev pub invariant-loop-entry : goal.invariant-loop-entry
invariant-loop-entry l = (prefixes : JournalsView) → AreKept l.fn.tables prefixes → ViewLed prefixes l.ahead (take l.entry-index l.entries)
