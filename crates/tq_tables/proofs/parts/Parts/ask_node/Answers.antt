use Rattle.std.{proofs.Common.{ℕ, ◌≡◌, ◌-◌, ◌<◌, length, ap, ◌∙◌, arith, Result, Ok, Err}, specs.Prelude.{OnOk, OnErr}}
use Rattle.tq_asks.specs.declared.ask.NodeAsk.{NodeAsk}
use Rattle.tq_node.specs.Node.{NodeView, server_after}
use Rattle.tq_tables.{specs.Parts.PartsView, proofs.{RowLaws.at-place, Stood.AreOfTree-set}}
use Rattle.tq_tables.proofs.parts.Parts.ask_node.Goals as goal

-- whatever it answers, a server stays the same one of the same tree
stays : {T E : Type 0} (result : Result T E) (old new : NodeView) (number : ℕ) (ask : NodeAsk) → OnOk result (new ≡ server_after old number ask) → OnErr result (new ≡ old)
    → (new.levels ≡ old.levels) × (new.server ≡ old.server)
stays (Ok told) old new number ask after same = (ap (λ (n : NodeView). n.levels) after, ap (λ (n : NodeView). n.server) after)
stays (Err fault) old new number ask after same = (ap (λ (n : NodeView). n.levels) same, ap (λ (n : NodeView). n.server) same)

pub invariant_of-self : goal.invariant_of-self
invariant_of-self c =
    let many = ap (λ (p : PartsView). length p.nodes) c.self.view_is in
    let there = c.requires.there in
    let less : c.args.server - 1 < length c.self.inside.nodes.items = omega (arith, many, there.0, there.1) in
    let place = at-place c.self.inside.view.levels 1 c.self.inside.nodes.items c.self.invariant (c.args.server - 1) c.index_mut.result.now less c.index_mut.ensures.value in
    let same = stays c.tell.result c.index_mut.result.now c.tell.new.self c.args.number c.args.ask.now c.tell.ensures.after c.tell.ensures.err in
    AreOfTree-set c.self.inside.view.levels 1 c.self.inside.nodes.items (c.args.server - 1) c.tell.new.self c.self.invariant
    (same.0 ∙ place.0) (same.1 ∙ place.1)
