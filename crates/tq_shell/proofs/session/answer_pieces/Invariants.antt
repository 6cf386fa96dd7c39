use Rattle.std.proofs.Common.{◌≡◌, [], length}
use Rattle.tq_shell.specs.Session.{IsAnswering, IsGoing}
use Rattle.tq_shell.proofs.session.answer_pieces.Given as goal

abbrev pub invariant-loop-count : goal.invariant-loop-count
invariant-loop-count g l = record {
  going : IsGoing l.fn.receiver.world (g.R.Source.given l.fn.reader) (g.R.Source.given l.reader) (g.W.Sink.taken l.fn.writer) (g.W.Sink.taken l.writer) l.receiver l.left;
  none : l.text.items ≡ [];
  reads : g.R.Source.failed l.reader ≡ g.R.Source.failed l.fn.reader;
  writes : g.W.Sink.failed l.writer ≡ g.W.Sink.failed l.fn.writer;
}

abbrev pub decreases-loop-count : goal.decreases-loop-count
decreases-loop-count g l = l.left

abbrev pub invariant-loop-piece : goal.invariant-loop-piece
invariant-loop-piece g l = record {
  going : IsAnswering l.initial.receiver l.initial.piece (g.W.Sink.taken l.initial.writer) (g.W.Sink.taken l.writer) l.receiver l.piece;
  none : l.text.items ≡ [];
  writes : g.W.Sink.failed l.writer ≡ g.W.Sink.failed l.initial.writer;
}

abbrev pub decreases-loop-piece : goal.decreases-loop-piece
decreases-loop-piece g l = length l.piece
