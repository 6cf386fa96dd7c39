use Rattle.std.proofs.Common.{◌≡◌, refl, sym, subst}
use Rattle.tq_txn.specs.{declared.txn.Txn.Txn, Told.IsEnding, Dialogue.{Follows, ended_by}}
use Rattle.tq_txn.specs.Commits.{commit_line, decide_line}
use Rattle.tq_txn.specs.declared.txn.Txn.TheVariants as states
use Rattle.tq_interpreter.specs.TxnAsked.{answer_end, missing_in, serial_text, decision_asked, decision_voting, course_line, IsClosed}
use Rattle.tq_interpreter.specs.{declared.states.Closed.{Closed, TheVariants.Voting}, Known.{IsKept, in_state}}
use Rattle.tq_interpreter.proofs.ShellLines.{answered_as, kept_ending, later_asked, said_by, voting_kept}
use Rattle.tq_interpreter.proofs.decisions.decide_txn.Goals.{in-Decide, in-Commit}
use Rattle.tq_interpreter.proofs.decisions.decide_txn.Goals as goal

pub decide-requires : goal.decide-requires
decide-requires c =
    let is = voting_kept c.args.recorder.now _ _ _ _ _ _ c.requires c.replace-txn.ensures.value c.in-Voting.is c.in_ok-txn.ensures.closed in
    record { tree = is.levels; knows = is.knows }

pub commit-requires : goal.commit-requires
commit-requires c =
    let is = voting_kept c.args.recorder.now _ _ _ _ _ _ c.requires c.replace-txn.ensures.value c.in-Voting.is c.in_ok-txn.ensures.closed in
    record { tree = is.levels; knows = is.knows }

pub returns : goal.returns
returns c =
    let kept = c.args.kept.now in
    let state = c.in-Voting.voting in
    let now = c.args.recorder.now in
    let new = c.match-course.recorder in
    let after = c.match-course.answer.txn in
    let taken = subst (λ (state : Closed). IsClosed c.replace-txn.result state c.args.text.now.items c.voting_of.new.text.items) c.in-Voting.is c.in_ok-txn.ensures.closed in
    let closed = subst (λ (txn : Txn). IsClosed txn (Voting state) c.args.text.now.items c.voting_of.new.text.items) c.replace-txn.ensures.value taken in
    let asks : Follows (course_line c.args.course state) now.told new.told (ended_by c.match-course.answer.answer after) =
    elim c.match-course.branch [
      | in-Decide w ↦ rw (w.recorder-is, w.answer-is, w.in-Decide.is) w.decide.ensures.asks
      | in-Commit w ↦ rw (w.recorder-is, w.answer-is, w.in-Commit.is) w.commit.ensures.asks
    ] in
    let tree : new.journals.levels ≡ now.journals.levels =
    elim c.match-course.branch [
      | in-Decide w ↦ rw w.recorder-is w.decide.ensures.tree
      | in-Commit w ↦ rw w.recorder-is w.commit.ensures.tree
    ] in
    let ending : IsEnding (states.Voting state) now.told new.told after =
    elim c.match-course.branch [
      | in-Decide w ↦ rw (w.recorder-is, w.answer-is) w.decide.ensures.ending
      | in-Commit w ↦ rw (w.recorder-is, w.answer-is) w.commit.ensures.ending
    ] in
    record {
      answered = answered_as (decision_asked (course_line c.args.course) 0 kept) (decision_voting (course_line c.args.course) kept state) now.journals new.journals c.args.text.now.items c.voting_of.new.text.items c.say_committed.new.text.items _
          (closed.2 kept (decision_voting (course_line c.args.course) kept)) closed.0
          (said_by (course_line c.args.course state) (answer_end (in_state kept) missing_in serial_text) now new c.match-course.answer.answer after
          c.voting_of.new.text.items c.say_committed.new.text.items (record { txn = after; told = kept.told }) c.show_replayed.ensures c.show_replayed-2.ensures tree asks c.in_ok-say_committed.ensures.memory
          c.in_ok-say_committed.ensures.text refl);
      txn = kept_ending now new (states.Voting state) after tree ending (closed.1 now c.requires);
      later = later_asked (course_line c.args.course state) now new _ tree asks;
      kept = tt;
    }

pub returns-in_err-say_committed-clause-txn : goal.returns-in_err-say_committed-clause-txn
returns-in_err-say_committed-clause-txn c =
    let now = c.args.recorder.now in
    let is = voting_kept now _ _ _ _ _ _ c.requires c.replace-txn.ensures.value c.in-Voting.is c.in_ok-txn.ensures.closed in
    elim c.match-course.branch [
      | in-Decide w ↦ rw (w.recorder-is, w.answer-is) (kept_ending now w.decide.new.asker (states.Voting c.in-Voting.voting) w.decide.result.txn w.decide.ensures.tree w.decide.ensures.ending is)
      | in-Commit w ↦ rw (w.recorder-is, w.answer-is) (kept_ending now w.commit.new.asker (states.Voting c.in-Voting.voting) w.commit.result.txn w.commit.ensures.tree w.commit.ensures.ending is)
    ]

pub returns-in_err-say_committed-clause-later : goal.returns-in_err-say_committed-clause-later
returns-in_err-say_committed-clause-later c =
    elim c.match-course.branch [
      | in-Decide w ↦ rw w.recorder-is (later_asked (decide_line c.in-Voting.voting) c.args.recorder.now w.decide.new.asker _ w.decide.ensures.tree w.decide.ensures.asks)
      | in-Commit w ↦ rw w.recorder-is (later_asked (commit_line c.in-Voting.voting) c.args.recorder.now w.commit.new.asker _ w.commit.ensures.tree w.commit.ensures.asks)
    ]

pub returns-in_err-txn-clause-txn : goal.returns-in_err-txn-clause-txn
returns-in_err-txn-clause-txn c = subst (IsKept c.args.recorder.now) (sym c.replace-txn.ensures.after) (c.stand_in-vacant.ensures c.args.recorder.now c.requires.levels)
