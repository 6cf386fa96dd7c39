use Rattle.std.proofs.Common.{◌≡◌, ◌≤◌, ◌∙◌, true, sym, ap, subst}
use Rattle.tq_coterie.specs.Coterie.{is_quorum}
use Rattle.tq_evidence.specs.Evidence.{granters}
use Rattle.tq_txn_states.{specs.Open.{RoomySet, IsReady}, proofs.{Searched.with_numbers-held, GoodGrants.granter_of}}
use Rattle.tq_txn_states.proofs.servers.Servers.grow.Goals as goal

pub returns-then-not-grows-clause-servers : goal.returns-then-not-grows-clause-servers
returns-then-not-grows-clause-servers c =
    let all = subst (λ grows. IsReady c.args.self.now grows (granters c.args.grants.now)) c.if-not-grows.true c.requires.ready in
    sym (with_numbers-held c.args.self.now.servers (granters c.args.grants.now) all)

pub new-requires : goal.new-requires
new-requires c =
    let levels : c.args.self.now.levels ≡ c.put.inside.levels = sym (ap (λ (s : RoomySet). s.levels) c.put.view_is ∙ c.loop-grant.invariant.levels) in
    let is : is_quorum c.put.inside.levels (granters c.args.grants.now) ≡ true = subst (λ l. is_quorum l (granters c.args.grants.now) ≡ true) levels c.requires.quorum in
    let some : 1 ≤ c.put.inside.levels = subst (λ l. 1 ≤ l) (c.count.ensures.value ∙ ap (λ (s : RoomySet). s.levels) c.self.view_is ∙ levels) c.count.ensures.least in
    granter_of c.put.inside.levels c.args.grants.now c.grant-item.result c.loop-grant.grant-index some is c.loop-grant-test.true c.grant-item.is
