use Rattle.std.proofs.Common.{◌≤◌, length}
use Rattle.tq_shell.proofs.Pieces.{IsReceiving}
use Rattle.tq_shell.proofs.receiver.Receiver.receive.Given as goal

-- what is left of the piece goes on from what was received of it and answered
abbrev pub invariant-loop-place : goal.invariant-loop-place
invariant-loop-place l = record {
  few : length l.self.line ≤ 4202;
  within : length l.left ≤ length l.piece;
  going : IsReceiving l.initial.self l.initial.text.items l.piece l.self l.text.items l.left;
}

abbrev pub decreases-loop-place : goal.decreases-loop-place
decreases-loop-place l = length l.left
