use Rattle.std.specs.Io.KnownBytes.{Keeps}
use Rattle.tq_devices.proofs.standard.write_on.Given as goal

-- no write so far gave a byte
abbrev pub invariant-loop-turn : goal.invariant-loop-turn
invariant-loop-turn g l = Keeps (g.W.Write.contents l.initial.writer) (g.W.Write.contents l.writer)
