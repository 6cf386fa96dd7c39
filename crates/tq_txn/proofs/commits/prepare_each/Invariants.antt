use Rattle.std.proofs.Common.{◌≡◌, List, Option, drop}
use Rattle.tq_txn_states.specs.Voting.{IsVotedOn, VotingView}
use Rattle.tq_txn.specs.{Dialogue.{LineEnd, Follows}, Commits.prepares_line, Told.IsKnown}
use Rattle.tq_txn.specs.declared.asker.Exchange.{Exchange}
use Rattle.tq_txn.specs.declared.txn.Txn.TheVariants as states
use Rattle.tq_txn.proofs.commits.prepare_each.Given as goal

-- what follows from here with the voters that are left follows from the start with all of them
abbrev pub invariant-loop-place : goal.invariant-loop-place
invariant-loop-place g l = record {
  tree : g.A.Asker.levels l.asker ≡ g.A.Asker.levels l.initial.asker;
  kept : IsVotedOn l.initial.voting l.voting;
  knows : IsKnown states.Voting (g.A.Asker.told l.initial.asker) (g.A.Asker.told l.asker) l.initial.voting l.voting;
  asks : (after : List Exchange) (end : Option (LineEnd (Unit {0}) VotingView))
      → Follows (prepares_line (drop l.place l.initial.voting.txn.voters) l.voting) (g.A.Asker.told l.asker) after end
      → Follows (prepares_line l.initial.voting.txn.voters l.initial.voting) (g.A.Asker.told l.initial.asker) after end;
}
