use Rattle.std.specs.Io.KnownBytes.{Keeps}
use Rattle.tq_devices.proofs.standard.read_on.Given as goal

-- no read so far took a byte
abbrev pub invariant-loop-turn : goal.invariant-loop-turn
invariant-loop-turn g l = Keeps (g.R.Read.remaining l.initial.reader) (g.R.Read.remaining l.reader)
