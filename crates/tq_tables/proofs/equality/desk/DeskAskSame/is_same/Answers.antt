use Rattle.std.proofs.lemmas.Bool.Decides.{Decides-at}
use Rattle.tq_tables.{specs.Same.same_desk_ask, proofs.Equal.{decides, desk_ask-is, desk_ask-self}}
use Rattle.tq_tables.proofs.equality.desk.DeskAskSame.is_same.Goals as goal

pub returns : goal.returns
returns c = Decides-at _ _ c.test_of_ask.ensures (decides same_desk_ask desk_ask-is desk_ask-self c.args.self.now c.args.other.now)
