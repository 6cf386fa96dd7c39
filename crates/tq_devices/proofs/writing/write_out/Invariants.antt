use Rattle.std.{proofs.Common.{◌≡◌, ℕ, length, take, drop}, specs.Io.KnownBytes.Appends}
use Rattle.tq_devices.proofs.writing.write_out.Given as goal

-- a front of the bytes is written, and the rest is left
abbrev pub invariant-loop-rest : goal.invariant-loop-rest
invariant-loop-rest g l = record {
  front : (count : ℕ) × (l.rest ≡ drop count l.bytes) × Appends (g.W.Sink.taken l.fn.writer) (g.W.Sink.taken l.writer) (take count l.bytes);
  same : g.W.Sink.failed l.writer ≡ g.W.Sink.failed l.fn.writer;
}

abbrev pub decreases-loop-rest : goal.decreases-loop-rest
decreases-loop-rest g l = length l.rest
