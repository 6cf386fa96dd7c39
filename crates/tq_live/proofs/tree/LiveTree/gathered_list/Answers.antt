use Rattle.std.proofs.{Common.{◌≡◌, ap, sym, ◌∙◌, Some, List, ℕ}, lemmas.Result.IfOk-weaker}
use Rattle.tq_shape.specs.Tree.{Server}
use Rattle.tq_coterie.{specs.Coterie.{numbers_of, servers_of}, proofs.Parts.numbers_of-servers_of}
use Rattle.tq_live.proofs.tree.LiveTree.gathered_list.Goals as goal

-- a list of the servers of these numbers has them
has_numbers : (levels : ℕ) (numbers : List ℕ) (ids : List Server) → ids ≡ servers_of levels numbers → numbers_of ids ≡ numbers
has_numbers levels numbers ids are = ap numbers_of are ∙ numbers_of-servers_of levels numbers

pub returns-clause-set : goal.returns-clause-set
returns-clause-set c =
    let servers = c.gather_into.new.set in
    IfOk-weaker c.list_servers.result _ _ (λ ids are. c.gather_into.ensures.found ∙ ap Some (sym (has_numbers servers.levels servers.numbers ids.items are))) c.list_servers.ensures

pub returns-clause-tree : goal.returns-clause-tree
returns-clause-tree c =
    let servers = c.gather_into.new.set in
    let levels = c.args.self.now.levels in
    IfOk-weaker c.list_servers.result _ _ (λ ids are. are ∙ (ap (λ l. servers_of l servers.numbers) c.gather_into.ensures.levels ∙ ap (servers_of levels) (sym (has_numbers servers.levels servers.numbers ids.items are)))) c.list_servers.ensures
