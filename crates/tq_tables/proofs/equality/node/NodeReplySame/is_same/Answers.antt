use Rattle.std.proofs.lemmas.Bool.Decides.{Decides-at}
use Rattle.tq_tables.{specs.Same.same_node_reply, proofs.Equal.{decides, node_reply-is, node_reply-self}}
use Rattle.tq_tables.proofs.equality.node.NodeReplySame.is_same.Goals as goal

pub returns : goal.returns
returns c = Decides-at _ _ c.test_of_reply.ensures (decides same_node_reply node_reply-is node_reply-self c.args.self.now c.args.other.now)
