use Rattle.std.{proofs.Common.{◌≡◌, ◌+◌, ◌-◌, length}, specs.Io.KnownBytes.Appends}
use Rattle.tq_shell.proofs.reading.read_within.Given as goal

-- what the source has given is kept
abbrev pub invariant-loop-buffer : goal.invariant-loop-buffer
invariant-loop-buffer g l = record {
  read : Appends (g.R.Source.given l.fn.reader) (g.R.Source.given l.reader) l.bytes.items;
  same : g.R.Source.failed l.reader ≡ g.R.Source.failed l.fn.reader;
}

abbrev pub decreases-loop-buffer : goal.decreases-loop-buffer
decreases-loop-buffer g l = l.limit + 1 - length l.bytes.items
