use Rattle.std.proofs.Common.{Err, refl, rules}
use Rattle.tq_txn.{specs.{Commits.{commit_end, prepares_line}, Dialogue.ended_by}, proofs.KnownLaws.cites_on}
use Rattle.tq_txn.proofs.CommitLaws.{commit_off, commit_on, decide_off, decide_on, ending_behind, ending_none, ending_voted}
use Rattle.tq_txn.proofs.Deskless.{deskless_cites, deskless_commit_end, deskless_prepares, deskless_untold}
use Rattle.tq_txn.specs.declared.txn.Txn.TheVariants as states
use Rattle.tq_txn.proofs.commits.commit.Goals as goal

pub end_committed-requires-clause-knows : goal.end_committed-requires-clause-knows
end_committed-requires-clause-knows g c = c.decide-answer.ensures.ending.knows (c.prepare_each.ensures.knows c.requires.knows)

pub returns-in-Err : goal.returns-in-Err
returns-in-Err g c =
    let voting = c.args.voting in
    let voted = c.prepare_each.new.voting in
    let now = g.A.Asker.told c.args.asker.now in
    let mid = g.A.Asker.told c.prepare_each.new.asker in
    let fault = c.in-Err.fault in
    let line = prepares_line voting.txn.voters voting in
    let deskless = deskless_prepares voting.txn.voters voting in
    let end = ended_by c.prepare_each.result voted in
    let votes = c.prepare_each.ensures in
    let untold = deskless_untold voting.txn.txn line now mid end deskless votes.asks in
    record {
      asks = commit_off voting voted now mid fault c.in-Err.ensures.asks;
      levels = search rules;
      ending = ending_voted voting voted (states.Voting voted) now mid mid votes.kept votes.knows untold (ending_none (states.Voting voted) (states.Voting voted) mid refl);
      cited = deskless_cites line now mid end deskless votes.asks;
      tree = search rules;
    }

pub returns-in-Err-answer : goal.returns-in-Err-answer
returns-in-Err-answer g c =
    let voting = c.args.voting in
    let voted = c.prepare_each.new.voting in
    let now = g.A.Asker.told c.args.asker.now in
    let mid = g.A.Asker.told c.prepare_each.new.asker in
    let new = g.A.Asker.told c.decide-answer.new.asker in
    let fault = c.in-Err-answer.fault in
    let answer = c.decide-answer.result.answer in
    let txn = c.decide-answer.result.txn in
    let decided = c.decide-answer.ensures in
    let line = prepares_line voting.txn.voters voting in
    let deskless = deskless_prepares voting.txn.voters voting in
    let end = ended_by c.prepare_each.result voted in
    let votes = c.prepare_each.ensures in
    let untold = deskless_untold voting.txn.txn line now mid end deskless votes.asks in
    record {
      asks =
          commit_on voting voted now mid new (ended_by (Err fault) txn) c.in_default.ensures.asks
          (decide_off voted answer txn mid new decided.asks fault c.in-Err-answer.is);
      levels = search rules;
      ending = ending_voted voting voted txn now mid new votes.kept votes.knows untold decided.ending;
      cited = cites_on now mid new (deskless_cites line now mid end deskless votes.asks) decided.cited;
      tree = search rules;
    }

pub returns-in-Ok : goal.returns-in-Ok
returns-in-Ok g c =
    let voting = c.args.voting in
    let voted = c.prepare_each.new.voting in
    let now = g.A.Asker.told c.args.asker.now in
    let mid = g.A.Asker.told c.prepare_each.new.asker in
    let last = g.A.Asker.told c.decide-answer.new.asker in
    let new = g.A.Asker.told c.end_committed.new.asker in
    let serial = c.in-Ok.serial in
    let answer = c.decide-answer.result.answer in
    let txn = c.decide-answer.result.txn in
    let decided = c.decide-answer.ensures in
    let line = prepares_line voting.txn.voters voting in
    let deskless = deskless_prepares voting.txn.voters voting in
    let end = ended_by c.prepare_each.result voted in
    let votes = c.prepare_each.ensures in
    let ending = c.end_committed.ensures in
    let ended = ended_by c.end_committed.result.answer c.end_committed.result.txn in
    let number = voting.txn.txn in
    let untold = deskless_untold number line now mid end deskless votes.asks in
    let untold_more = deskless_untold number (commit_end serial txn) last new ended (deskless_commit_end serial txn) ending.asks in
    let cited = deskless_cites (commit_end serial txn) last new ended (deskless_commit_end serial txn) ending.asks in
    record {
      asks =
          commit_on voting voted now mid new ended c.in_default.ensures.asks
          (decide_on voted answer txn mid last decided.asks serial new ended c.in-Ok.is ending.asks);
      levels = search rules;
      ending = ending_behind voting txn c.end_committed.result.txn now last new ending.same untold_more (ending_voted voting voted txn now mid last votes.kept votes.knows untold decided.ending);
      cited = cites_on now mid new (deskless_cites line now mid end deskless votes.asks) (cites_on mid last new decided.cited cited);
      tree = search rules;
    }
