use Rattle.std.proofs.Common.{◌∙◌, ℕ, Ok, Err, rules, sym, ap, subst}
use Rattle.tq_desk.specs.{DeskStep.HasGoodEvidence, declared.ask.DeskAsk.DeskAsk}
use Rattle.tq_txn_states.specs.Voting.{VotesOnly, VotingView}
use Rattle.tq_txn.specs.declared.txn.Txn.TheVariants as states
use Rattle.tq_txn.{specs.Told.{IsEnding, answers_in}, proofs.{KnownLaws.cites_ask, LineLaws.told_desk}}
use Rattle.tq_txn.proofs.CommitLaws.{decide_ready, ready_on, ending_answered, ending_none, ending_refused, levels_still, untold_none}
use Rattle.tq_txn.proofs.commits.decide.Goals as goal

pub citations-requires : goal.citations-requires
citations-requires g c = c.in-Ok-evidence.ensures.value

pub desk-requires-clause-evidence : goal.desk-requires-clause-evidence
desk-requires-clause-evidence g c =
    let ask = c.in-Ok-evidence.ask in
    let ready = c.in-Ok.ready in
    let levels = ap (λ (v : VotingView). v.txn.levels) c.in-Ok.ensures.succeeds.1 ∙ c.requires.tree in
    subst (λ (l : ℕ). HasGoodEvidence l ask) levels
    (subst (λ (a : DeskAsk). HasGoodEvidence ready.txn.levels a) (sym c.in-Ok-evidence.ensures.value) c.in-Ok-evidence.ensures.good)

pub desk-requires-clause-founded : goal.desk-requires-clause-founded
desk-requires-clause-founded g c =
    let told = answers_in (g.A.Asker.told c.args.asker.now) in
    c.in-Ok-evidence.ensures.cited told (subst (VotesOnly told) (sym c.in-Ok.ensures.succeeds.1) c.requires.knows)

pub decision_of-requires-clause-asked : goal.decision_of-requires-clause-asked
decision_of-requires-clause-asked g c = c.in-Ok-desk.ensures.same ∙ c.in-Ok-evidence.ensures.value

pub returns-in-Err-clause-ending : goal.returns-in-Err-clause-ending
returns-in-Err-clause-ending g c =
    ending_none (states.Voting c.args.voting) (states.Voting c.in-Err.back.0) (g.A.Asker.told c.args.asker.now) (ap states.Voting c.in-Err.ensures.fault.0)

pub returns-in-Err-evidence-clause-ending : goal.returns-in-Err-evidence-clause-ending
returns-in-Err-evidence-clause-ending g c =
    ending_none (states.Voting c.args.voting) (states.Voting c.into_voting.result) (g.A.Asker.told c.args.asker.now) (ap states.Voting (c.into_voting.ensures ∙ c.in-Ok.ensures.succeeds.1))

pub returns-in-Err-citations-clause-ending : goal.returns-in-Err-citations-clause-ending
returns-in-Err-citations-clause-ending g c =
    ending_none (states.Voting c.args.voting) (states.Voting c.into_voting-in-Err-citations.result) (g.A.Asker.told c.args.asker.now) (ap states.Voting (c.into_voting-in-Err-citations.ensures ∙ c.in-Ok.ensures.succeeds.1))

pub returns-in-Err-desk-clause-ending : goal.returns-in-Err-desk-clause-ending
returns-in-Err-desk-clause-ending g c =
    ending_refused (states.Voting c.args.voting) (states.Voting c.into_voting-in-Err-desk.result) c.in-Ok-evidence.ask c.in-Err-desk.fault (g.A.Asker.told c.args.asker.now) (g.A.Asker.told c.desk.new.self)
    (ap states.Voting (c.into_voting-in-Err-desk.ensures ∙ c.in-Ok.ensures.succeeds.1)) c.in-Err-desk.ensures.exchanges

pub returns-in-Err-desk-clause-cited : goal.returns-in-Err-desk-clause-cited
returns-in-Err-desk-clause-cited g c =
    let now = g.A.Asker.told c.args.asker.now in
    let new = g.A.Asker.told c.desk.new.self in
    cites_ask now new c.in-Ok-evidence.ask (Err c.in-Err-desk.fault) c.in-Err-desk.ensures.exchanges (c.in-Ok-evidence.ensures.cited (answers_in now) (subst (VotesOnly (answers_in now)) (sym c.in-Ok.ensures.succeeds.1) c.requires.knows))

pub returns-in-Ok-desk : goal.returns-in-Ok-desk
returns-in-Ok-desk g c =
    let old = c.args.voting in
    let ready = c.in-Ok.ready in
    let now = g.A.Asker.told c.args.asker.now in
    let new = g.A.Asker.told c.desk.new.self in
    let ask = c.in-Ok-evidence.ask in
    let told = c.in-Ok-desk.told in
    let desk = c.in-Ok-desk.ensures in
    let answer = c.decision_of.result.answer in
    let after = c.decision_of.result.txn in
    let is = c.decision_of.ensures in
    let same = c.in-Ok.ensures.succeeds.1 in
    let P : VotingView → Type 0 = λ v. IsEnding (states.Voting v) now new after in
    let ending = subst P same (ending_answered (states.Voting ready) after ask told now new new desk.same desk.exchanges is.txn (untold_none (states.Voting ready) new)) in
    record {
      asks = decide_ready old ready answer after now new c.in-Ok.ensures.succeeds.0 same
          (ready_on ready ask c.in-Ok-evidence.ensures.value told answer after now new (told_desk ask told now new desk.exchanges desk.same) is.answer is.txn);
      levels = levels_still (states.Voting old) after ending.still;
      ending = ending;
      cited = cites_ask now new ask (Ok told) desk.exchanges (c.in-Ok-evidence.ensures.cited (answers_in now) (subst (VotesOnly (answers_in now)) (sym same) c.requires.knows));
      tree = search rules;
    }
