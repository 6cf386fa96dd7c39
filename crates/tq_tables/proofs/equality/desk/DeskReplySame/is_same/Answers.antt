use Rattle.std.proofs.lemmas.Bool.Decides.{Decides-at}
use Rattle.tq_tables.{specs.Same.same_desk_reply, proofs.Equal.{decides, desk_reply-is, desk_reply-self}}
use Rattle.tq_tables.proofs.equality.desk.DeskReplySame.is_same.Goals as goal

pub returns : goal.returns
returns c = Decides-at _ _ c.test_of_reply.ensures (decides same_desk_reply desk_reply-is desk_reply-self c.args.self.now c.args.other.now)
