use Rattle.std.proofs.{Common.{◌≡◌, ℕ, List, Option, Some, None, subst}, lemmas.Result.err_from_is_err_and}
use Rattle.std.specs.{Option.IfSome, Result.result_ok}
use Rattle.tq_txn.specs.{Commits.commit_line, Told.{IsOpenIn, Knows, answers_in}, declared.asker.Exchange.Exchange}
use Rattle.tq_txn.specs.Script.{after_commit}
use Rattle.tq_txn.proofs.{LineLaws.follows_end, Following.{follows_closed, follows_went, follows_went_out}}
use Rattle.tq_txn_states.specs.Open.{OpenView}
use Rattle.tq_txn.specs.declared.txn.Txn.TheVariants as states
use Rattle.tq_txn.proofs.transacting.commit_open.Goals as goal

-- what is open knows what it keeps
kept_open : (levels : ℕ) (told : List Exchange) (open_txn : Option OpenView) (txn : OpenView) → open_txn ≡ Some txn → IfSome open_txn (IsOpenIn levels told) → Knows told (states.Open txn)
kept_open levels told open_txn txn is known = (subst (λ (o : Option OpenView). IfSome o (IsOpenIn levels told)) is known).1

pub commit-answer-requires-clause-knows : goal.commit-answer-requires-clause-knows
commit-answer-requires-clause-knows g c =
    let told = g.A.Asker.told c.args.asker.now in
    c.in-Ok.ensures.cited (answers_in told) (kept_open (g.A.Asker.levels c.args.asker.now) told c.args.open_txn c.in-Some.txn c.in-Some.is c.requires)

pub give_up-requires-2-clause-knows : goal.give_up-requires-2-clause-knows
give_up-requires-2-clause-knows g c =
    let told = g.A.Asker.told c.args.asker.now in
    c.commit-answer.ensures.ending.knows (c.in-Ok.ensures.cited (answers_in told) (kept_open (g.A.Asker.levels c.args.asker.now) told c.args.open_txn c.in-Some.txn c.in-Some.is c.requires))

pub returns-in_err-answered-clause-asks : goal.returns-in_err-answered-clause-asks
returns-in_err-answered-clause-asks g c =
    let p = err_from_is_err_and c.from_residual.result c.from_residual.ensures.1 in
    let old = g.A.Asker.told c.args.asker.now in
    let new = g.A.Asker.told c.commit-answer.new.asker in
    let voting = c.in-Ok.voting in
    rw (p.1, c.in-Some.is) (follows_closed c.in-Some.txn voting old new None c.in-Ok.ensures.succeeds.0 c.in-Ok.ensures.succeeds.1
    (follows_went_out (commit_line voting) after_commit c.commit-answer.result.answer c.commit-answer.result.txn old new c.in_err-answered.ensures c.commit-answer.ensures.asks))

pub returns-then-answered-clause-asks : goal.returns-then-answered-clause-asks
returns-then-answered-clause-asks g c =
    let old = g.A.Asker.told c.args.asker.now in
    let new = g.A.Asker.told c.commit-answer.new.asker in
    let voting = c.in-Ok.voting in
    rw c.in-Some.is (follows_closed c.in-Some.txn voting old new (Some None) c.in-Ok.ensures.succeeds.0 c.in-Ok.ensures.succeeds.1
    (follows_went (commit_line voting) after_commit c.commit-answer.result.answer c.commit-answer.result.txn c.in_ok-answered.answered old new new (Some None) c.in_ok-answered.ensures c.commit-answer.ensures.asks
    (rw c.if-answered.true (follows_end None new))))

pub returns-clause-asks : goal.returns-clause-asks
returns-clause-asks g c =
    let old = g.A.Asker.told c.args.asker.now in
    let mid = g.A.Asker.told c.commit-answer.new.asker in
    let new = g.A.Asker.told c.give_up-2.new.asker in
    let voting = c.in-Ok.voting in
    rw c.in-Some.is (follows_closed c.in-Some.txn voting old new (result_ok c.give_up-2.result) c.in-Ok.ensures.succeeds.0 c.in-Ok.ensures.succeeds.1
    (follows_went (commit_line voting) after_commit c.commit-answer.result.answer c.commit-answer.result.txn c.in_ok-answered.answered old mid new (result_ok c.give_up-2.result) c.in_ok-answered.ensures c.commit-answer.ensures.asks
    (rw c.if-answered.false c.give_up-2.ensures.asks)))
