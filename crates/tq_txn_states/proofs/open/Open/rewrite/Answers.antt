use Rattle.tq_txn_states.proofs.{GoodOps.IsOpen-rewritten, CitedLaws.rewrite_keeps}
use Rattle.tq_txn_states.specs.{declared.told.NodeTold.NodeTold, Voting.KeepsOnly, Open.OpenView}
use Rattle.std.proofs.Common.{List}
use Rattle.tq_txn_states.proofs.open.Open.rewrite.Goals as goal

pub invariant_of-self : goal.invariant_of-self
invariant_of-self c =
    let f = c.self.inside in
    rw c.rewrite_in.ensures (IsOpen-rewritten c.args.file.now c.args.content (record { levels = f.levels; limits = f.limits; txn = f.txn; ops = f.ops.items; voters = f.voters.servers; touched = f.touched.servers }) c.self.invariant.0, c.self.invariant.1)

pub returns-clause-cited : goal.returns-clause-cited
returns-clause-cited c =
    let f = c.self.inside in
    let old : OpenView = record { levels = f.levels; limits = f.limits; txn = f.txn; ops = f.ops.items; voters = f.voters.servers; touched = f.touched.servers } in
    let keeps : (told : List NodeTold) → KeepsOnly told c.args.self.now → KeepsOnly told old = rw (← c.self.view_is) λ told is. is in
    λ told is. rw c.rewrite_in.ensures (rewrite_keeps old c.args.file.now c.args.content told (keeps told is))
