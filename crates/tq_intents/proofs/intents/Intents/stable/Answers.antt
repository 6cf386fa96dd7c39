use Rattle.std.proofs.Common.{ap, subst}
use Rattle.tq_intents.{specs.Kept.HasOneVoteEach, proofs.KeptLocks.get-kept_locks}
use Rattle.tq_intents.proofs.intents.Intents.stable.Goals as goal

pub returns-clause-one_each : goal.returns-clause-one_each
returns-clause-one_each c = subst HasOneVoteEach (ap (λ v. v.records) c.self.view_is) c.self.invariant.one_each

pub returns-clause-locks : goal.returns-clause-locks
returns-clause-locks c = λ file txn. get-kept_locks c.args.self.now.records file txn (returns-clause-one_each c)
