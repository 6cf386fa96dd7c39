use Rattle.std.{proofs.Common.{◌≡◌, ◌≤◌, drop}, specs.List.slice_range}
use Rattle.tq_syntax.specs.{Gathering.nothing_gathered, Scripts.lines_within}
use Rattle.tq_syntax.proofs.{ByteLaws.lines_left, GatheringLaws.run}
use Rattle.tq_syntax.proofs.reader.read_within.Given as goal

-- the bytes from `start` on belong to the line that goes on: with it and the bytes that are left the lines end as all of them do
abbrev pub invariant-loop-place : goal.invariant-loop-place
invariant-loop-place l = record {
  within : l.start ≤ l.place;
  few : l.number ≤ l.start;
  lines : run l.number l.gathered (lines_left l.is_over (slice_range l.bytes l.start l.place) (drop l.place l.bytes)) ≡ run 0 nothing_gathered (lines_within l.is_over l.bytes);
}
