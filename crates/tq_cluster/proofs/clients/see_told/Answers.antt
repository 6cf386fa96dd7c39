use Rattle.std.proofs.Common.{subst}
use Rattle.tq_cluster.{specs.Told.{AreOfParts, CallerView}, proofs.Callers.{all_done, all_next}}
use Rattle.tq_cluster.proofs.clients.see_told.Goals as goal

pub loop-caller-preserved : goal.loop-caller-preserved
loop-caller-preserved c =
    all_next (λ (v : CallerView). AreOfParts v.levels v.told) c.args.callers.now c.loop-caller.caller-index c.caller-item.result c.loop-caller-test.true c.caller-item.is c.loop-caller.invariant
    (subst (λ (v : CallerView). AreOfParts v.levels v.told) c.caller.view_is c.caller.invariant.1)

pub returns : goal.returns
returns c = all_done (λ (v : CallerView). AreOfParts v.levels v.told) c.args.callers.now c.loop-caller.caller-index c.loop-caller-test.false c.loop-caller.invariant
