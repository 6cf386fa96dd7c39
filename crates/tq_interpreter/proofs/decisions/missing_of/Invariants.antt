use Rattle.std.proofs.Common.{◌≡◌, ◌++◌, drop}
use Rattle.tq_coterie.specs.Coterie.{numbers_of}
use Rattle.tq_interpreter.specs.TxnAsked.{missing_of}
use Rattle.tq_interpreter.proofs.decisions.missing_of.Given as goal

-- those found so far and those among the voters that are left are all
abbrev pub invariant-loop-voter : goal.invariant-loop-voter
invariant-loop-voter l = l.servers.items ++ missing_of l.voting (numbers_of (drop l.voter-index l.voters)) ≡ missing_of l.voting (numbers_of l.voters)
