use Rattle.std.proofs.lemmas.Bool.Decides.{Decides-at}
use Rattle.tq_tables.{specs.Same.same_node_ask, proofs.Equal.{decides, node_ask-is, node_ask-self}}
use Rattle.tq_tables.proofs.equality.node.NodeAskSame.is_same.Goals as goal

pub returns : goal.returns
returns c = Decides-at _ _ c.test_of_ask.ensures (decides same_node_ask node_ask-is node_ask-self c.args.self.now c.args.other.now)
