use Rattle.std.proofs.Common.{◌≡◌, [], length}
use Rattle.tq_shape.specs.Agrees.{standing_part}
use Rattle.tq_host.proofs.LineLaws.{IsReplaying}
use Rattle.tq_host.proofs.replaying.replay.Given as goal

-- the lines so far led here, and the rest is left
abbrev pub invariant-loop-place : goal.invariant-loop-place
invariant-loop-place g l = record {
  going : IsReplaying g.P.Answers.reply g.P.Answers.after g.P.Wire.reads (standing_part l.fn.part [] l.limit) l.text l.now l.left;
  limit : l.now.limit ≡ l.limit;
}

abbrev pub decreases-loop-place : goal.decreases-loop-place
decreases-loop-place g l = length l.left
