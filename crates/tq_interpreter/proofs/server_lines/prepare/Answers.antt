use Rattle.std.proofs.Common.{◌∙◌, sym, subst}
use Rattle.tq_interpreter.{specs.Known.IsKept, proofs.ShellLines.{later_none, voting_kept}}
use Rattle.tq_interpreter.proofs.server_lines.prepare.Goals.{in-Said, in-Voting+in_ok-kept-in-Voting}
use Rattle.tq_interpreter.proofs.server_lines.prepare.Goals as goal

pub vote-requires-clause-txn : goal.vote-requires-clause-txn
vote-requires-clause-txn c = voting_kept c.args.recorder.now _ _ _ _ _ _ c.requires.txn c.replace-txn.ensures.value c.in-Voting.is c.in_ok-txn.ensures.closed

pub returns-in_err-txn-clause-txn : goal.returns-in_err-txn-clause-txn
returns-in_err-txn-clause-txn c = subst (IsKept c.args.recorder.now) (sym c.replace-txn.ensures.after) (c.stand_in-vacant.ensures c.args.recorder.now c.requires.txn.levels)

pub returns-in_err-kept-in-Voting-clause-txn : goal.returns-in_err-kept-in-Voting-clause-txn
returns-in_err-kept-in-Voting-clause-txn c =
    let now = c.vote.new.recorder in
    subst (IsKept now) (sym c.replace-txn.ensures.after) (c.stand_in-vacant.ensures now (c.requires.txn.levels ∙ sym c.vote.ensures.later.tree))

pub returns-clause-later : goal.returns-clause-later
returns-clause-later c =
    elim c.match-branch-2.branch [
      | in-Said w ↦ rw w.recorder-is (later_none c.args.recorder.now)
      | in-Voting+in_ok-kept-in-Voting w ↦ rw w.recorder-is w.vote.ensures.later
    ]
