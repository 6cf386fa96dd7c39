use Rattle.std.proofs.Common.{◌∙◌, ap}
use Rattle.tq_evidence.specs.declared.op.OpKind.TheVariants as kinds
use Rattle.tq_txn_states.{specs.Open.{read_op, txn_after_op}, proofs.CitedLaws.taken_cited}
use Rattle.tq_txn_states.proofs.open.Open.read.Goals as goal

pub returns-clause-after : goal.returns-clause-after
returns-clause-after c =
    c.in_ok-found.ensures.after ∙ ap (λ gs. txn_after_op c.args.self.now (read_op c.args.file.now gs)) c.in_ok-grants.ensures.grants

pub returns-clause-cited : goal.returns-clause-cited
returns-clause-cited c =
    taken_cited kinds.Read c.args.self.now c.read_granted.new.self (read_op c.args.file.now c.in_ok-grants.grants.items) c.args.answers.now c.in_ok-found.ensures.after c.in_ok-grants.ensures.grants
