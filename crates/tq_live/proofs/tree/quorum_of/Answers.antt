use Rattle.std.proofs.{Common.{◌≡◌, ℕ, List, ap, ◌∙◌}, lemmas.Result.IfOk-weaker}
use Rattle.tq_coterie.specs.Coterie.{ServerList, numbers_of}
use Rattle.tq_coterie.proofs.Parts.{numbers_of-servers_of, IsMemberList-servers_of}
use Rattle.tq_live.proofs.tree.quorum_of.Goals as goal

abbrev of : List ℕ → ℕ → ServerList
of numbers levels = record { servers = numbers; levels = levels }

pub new-requires : goal.new-requires
new-requires c =
    let servers = c.args.servers.now in
    rw (c.levels.ensures, c.in_ok-ids.ensures) (IsMemberList-servers_of servers.levels servers.numbers c.requires)

pub returns : goal.returns
returns c =
    let servers = c.args.servers.now in
    let numbers : numbers_of c.in_ok-ids.ids.items ≡ servers.numbers = ap numbers_of c.in_ok-ids.ensures ∙ numbers_of-servers_of servers.levels servers.numbers in
    IfOk-weaker c.new.result _ _ (λ quorum is. is ∙ (λ i. of (numbers i) (c.levels.ensures i))) c.new.ensures
