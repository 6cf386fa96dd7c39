use Rattle.std.{proofs.Common.{◌≡◌, true, List, subst}, specs.List.list_all}
use Rattle.tq_shape.specs.Tree.{Server}
use Rattle.tq_coterie.specs.Coterie.{has, numbers_of}
use Rattle.tq_evidence.specs.Evidence.{granters}
use Rattle.tq_txn_states.proofs.servers.Servers.make_room.Goals as goal

pub returns-then-has_all-clause-ready : goal.returns-then-has_all-clause-ready
returns-then-has_all-clause-ready c =
    let P : List Server → Type 0 = λ ids. list_all (has (numbers_of ids)) (granters c.args.grants.now) ≡ true in
    rw (← c.self.view_is) (subst P c.as_slice.ensures.value (c.has_all.ensures c.if-has_all.true))
