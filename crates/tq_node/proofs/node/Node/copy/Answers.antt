use Rattle.std.proofs.Common.{◌∙◌}
use Rattle.tq_intents.specs.Kept.{kept_votes}
use Rattle.tq_node.proofs.Sound.{sound-as}
use Rattle.tq_node.proofs.node.Node.copy.Goals as goal

pub invariant_of-result : goal.invariant_of-result
invariant_of-result c = sound-as c.self.invariant c.in_ok-intents.ensures c.in_ok-copies.ensures c.in_ok-locks.ensures

pub returns : goal.returns
returns c =
    let inside = c.self.inside in
    let list = c.in_ok-intents.ensures in
    let files = c.in_ok-copies.ensures in
    let table = c.in_ok-locks.ensures in
    (λ i. record {
      levels = inside.server.levels;
      server = inside.server.number;
      state = record { records = record { copies = files i; locks = table i; votes = kept_votes (list i); down = inside.down }; stable = list i };
      last = inside.last;
    }) ∙ c.self.view_is
