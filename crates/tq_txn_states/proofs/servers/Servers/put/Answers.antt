use Rattle.std.proofs.{Common.{◌==◌, ◌≡◌, ◌∙◌, ℕ, false, nat_lt, sym, ap}, lemmas.Bool.eq-eqb}
use Rattle.tq_shape.specs.Tree.{Server}
use Rattle.tq_coterie.specs.Coterie.{has, numbers_of}
use Rattle.tq_txn_states.specs.Open.{RoomySet, with_id}
use Rattle.tq_txn_states.proofs.{Searched.{has-map, map-put, rises-with_server, put_at}, Puts.list_all-put}
use Rattle.tq_txn_states.proofs.servers.Servers.put.Goals as goal

abbrev number : Server → ℕ
number id = id.number

-- what is there afterwards, where the server was not
placed : (c : goal.After-put_at) → (has (numbers_of c.self.inside.ids.items) c.args.server.number ≡ false) × (c.put_at.new.items.items ≡ with_id c.args.server c.self.inside.ids.items)
placed c =
    let ids = c.self.inside.ids.items in
    let there = rw (c.number.ensures.value, c.as_slice.ensures.value) at c.place_of-place.ensures.there in
    let stands = rw (c.number-2.ensures.value, c.as_slice-2.ensures.value) at c.stands_at.ensures.value in
    let none : has (numbers_of ids) c.args.server.number ≡ false = sym there ∙ sym stands ∙ c.if-stands_at.false in
    let point = (rw (c.number.ensures.value, c.as_slice.ensures.value) at c.place_of-place.ensures.place) none in
    let within = rw c.as_slice.ensures.value at c.place_of-place.ensures.within in
    (none, c.put_at.ensures.items ∙ put_at number c.args.server ids c.place_of-place.result within point (sym (has-map number ids c.args.server.number) ∙ none))

pub invariant_of-self : goal.invariant_of-self
invariant_of-self c =
    let ids = c.self.inside.ids.items in
    let levels = c.requires.tree ∙ ap (λ (s : RoomySet). s.levels) (sym c.self.view_is) in
    rw (placed c).1 record {
      rise = rw (map-put number c.args.server ids) (rises-with_server c.args.server.number (numbers_of ids) (placed c).0 c.self.invariant.rise);
      tree = list_all-put (λ (id : Server). nat_lt c.args.server.number id.number) (λ (id : Server). id.levels == c.self.inside.levels) c.args.server ids (eq-eqb _ _ levels) c.self.invariant.tree;
    }

pub returns-clause-servers : goal.returns-clause-servers
returns-clause-servers c = rw (← c.self.view_is, (placed c).1, (placed c).0) (map-put number c.args.server c.self.inside.ids.items)
