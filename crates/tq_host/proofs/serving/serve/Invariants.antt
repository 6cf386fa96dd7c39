use Rattle.std.proofs.Common.{◌≡◌, ◌≤◌, ◌-◌, take, drop}
use Rattle.tq_host.proofs.ServeLaws.{IsTurning}
use Rattle.tq_host.proofs.serving.serve.Given as goal

-- lines are answered, and the rest of what was read is left
abbrev pub invariant-loop-turn : goal.invariant-loop-turn
invariant-loop-turn g l = record {
  going : IsTurning g.P.Answers.reply g.P.Answers.after g.P.Wire.reads_ask g.P.Wire.reads g.P.Wire.entry_line g.P.Wire.told_line l.fn.part
      (g.L.Log.kept l.fn.log) (g.W.Sink.taken l.fn.writer) (g.R.Source.given l.fn.reader) l._turn
      (g.L.Log.kept l.log) (g.L.Log.synced l.log) (g.W.Sink.taken l.writer) (g.R.Source.given l.reader)
      l.batch l.line.items (take (l.count - l.at) (drop l.at l.buffer));
  within : (l.at ≤ l.count) × (l.count ≤ 65536);
  reads : g.R.Source.failed l.reader ≡ g.R.Source.failed l.fn.reader;
  writes : g.W.Sink.failed l.writer ≡ g.W.Sink.failed l.fn.writer;
  logs : g.L.Log.failed l.log ≡ g.L.Log.failed l.fn.log;
}
