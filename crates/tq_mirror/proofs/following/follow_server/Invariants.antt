use Rattle.std.proofs.Common.{◌≡◌, ◌+◌, length, take}
use Rattle.tq_shape.specs.Tree.{IsServer}
use Rattle.tq_tables.specs.Journals.{JournalsView}
use Rattle.tq_mirror.{specs.Prefixes.{AreKept, server_prefix}, proofs.Standing.ServerLed}
use Rattle.tq_mirror.proofs.following.follow_server.Given as goal

-- the tables were asked what the entries so far ask, and gave their replies; the last of them had that number
abbrev pub invariant-loop-entry : goal.invariant-loop-entry
invariant-loop-entry l = record {
  led : (prefixes : JournalsView) → AreKept l.fn.tables prefixes → IsServer prefixes.levels l.number → l.known ≡ length (server_prefix prefixes l.number)
      → ServerLed prefixes l.number l.ahead (take l.entry-index l.entries);
  number : l.next ≡ l.known + l.entry-index;
}
