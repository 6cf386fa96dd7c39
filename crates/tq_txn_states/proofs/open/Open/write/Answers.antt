use Rattle.std.proofs.Common.{◌∙◌, ap}
use Rattle.tq_evidence.specs.declared.op.OpKind.TheVariants as kinds
use Rattle.tq_evidence.specs.Evidence.{is_exclusively_granted}
use Rattle.tq_txn_states.specs.Open.{txn_after_op, write_op}
use Rattle.tq_txn_states.proofs.{CitedLaws.taken_cited, GoodGrants.exclusive_grants}
use Rattle.tq_txn_states.proofs.open.Open.write.Goals as goal

pub write_granted-requires-clause-exclusive : goal.write_granted-requires-clause-exclusive
write_granted-requires-clause-exclusive c =
    ap is_exclusively_granted c.in_ok-grants.ensures.grants ∙ exclusive_grants c.args.self.now.txn c.args.file.now c.args.answers.now

pub returns-clause-after : goal.returns-clause-after
returns-clause-after c =
    c.in_ok-version.ensures.after ∙ ap (λ gs. txn_after_op c.args.self.now (write_op c.args.file.now c.args.content gs)) c.in_ok-grants.ensures.grants

pub returns-clause-cited : goal.returns-clause-cited
returns-clause-cited c =
    taken_cited kinds.Write c.args.self.now c.write_granted.new.self (write_op c.args.file.now c.args.content c.in_ok-grants.grants.items) c.args.answers.now c.in_ok-version.ensures.after c.in_ok-grants.ensures.grants
