use Rattle.std.proofs.Common.{◌≡◌, ◌+◌, ℕ, List, [], ◌∷◌, get_or, drop, suc, None, rules, refl, sym, ap, ◌∙◌, arith}
use Rattle.std.{proofs.lemmas.Bool.and_parts, specs.Borrow.Bor}
use Rattle.tq_json_read.specs.Slots.{Slots, texts, are_plain}
use Rattle.tq_json_read.proofs.Places.{names_from, none_first, none_still, distinct_later, taken_first, nothing_taken, pair}
use Rattle.tq_json.specs.Next.{members_behind}
use Rattle.tq_json_read.proofs.object.Tuple2OptionSlots.take_in_order.Goals as goal

pub take_named-requires : goal.take_named-requires
take_named-requires g c lifetimes =
    let names = c.args.names.now in
    let slot = c.args.slot in
    let other : Bor (List ℕ) = record { ref_ptr = (0, 0); now = [] } in
    let k = (get_or names slot other).now in
    let keys = drop (slot + 1) (texts names) in
    let split : k ∷ keys ≡ drop slot (texts names) = names_from names slot other c.if-slot-names.false in
    ((refl, tt), (and_parts _ _ (ap are_plain split ∙ c.requires.plain)).0)

pub take_in_order-requires : goal.take_in_order-requires
take_in_order-requires g c lifetimes =
    let names = c.args.names.now in
    let slot = c.args.slot in
    let other : Bor (List ℕ) = record { ref_ptr = (0, 0); now = [] } in
    let k = (get_or names slot other).now in
    let keys = drop (slot + 1) (texts names) in
    let split : k ∷ keys ≡ drop slot (texts names) = names_from names slot other c.if-slot-names.false in
    ((refl, tt), (distinct_later k keys (drop slot (texts names)) split c.requires.distinct, (and_parts _ _ (ap are_plain split ∙ c.requires.plain)).1))

pub returns-then-slot-names-clause-ok : goal.returns-then-slot-names-clause-ok
returns-then-slot-names-clause-ok g c old none =
    let at = g.T.FromReader.at c.args.plan.now in
    let of = g.R.Slots.of c.args.plan.now in
    let law : at None ≡ None = search rules in
    nothing_taken (λ (values : Slots). (at (values 0), of (λ place. values (suc place)))) (drop c.args.slot (texts c.args.names.now)) old c.args.depth (None, c.empty.result) c.args.reader.now none (pair _ _ _ _ (sym law) c.empty.ensures)

pub returns-in_err-first-clause-err : goal.returns-in_err-first-clause-err
returns-in_err-first-clause-err g c old none refused = c.in_err-first.ensures.err old (grind arith)

pub returns-in_err-rest-clause-err : goal.returns-in_err-rest-clause-err
returns-in_err-rest-clause-err g c old none refused =
    let names = c.args.names.now in
    let slot = c.args.slot in
    let other : Bor (List ℕ) = record { ref_ptr = (0, 0); now = [] } in
    let k = (get_or names slot other).now in
    let keys = drop (slot + 1) (texts names) in
    let split : k ∷ keys ≡ drop slot (texts names) = names_from names slot other c.if-slot-names.false in
    let n = c.in_ok-first.ensures.ok old (none_first k keys (drop slot (texts names)) old split none) in
    n.1 ∙ c.in_err-rest.ensures.err n.0 (none_still k keys (drop slot (texts names)) old n.0 split c.requires.distinct n.3 none) (grind arith)

pub returns-clause-ok : goal.returns-clause-ok
returns-clause-ok g c old none =
    let names = c.args.names.now in
    let slot = c.args.slot in
    let other : Bor (List ℕ) = record { ref_ptr = (0, 0); now = [] } in
    let k = (get_or names slot other).now in
    let keys = drop (slot + 1) (texts names) in
    let split : k ∷ keys ≡ drop slot (texts names) = names_from names slot other c.if-slot-names.false in
    let all = drop slot (texts names) in
    let n = c.in_ok-first.ensures.ok old (none_first k keys all old split none) in
    let t = c.in_ok-rest.ensures.ok n.0 (none_still k keys all old n.0 split c.requires.distinct n.3 none) in
    taken_first (g.T.FromReader.at c.args.plan.now) (g.R.Slots.of c.args.plan.now) k keys old n.0 (members_behind old c.args.depth c.args.reader.now) (members_behind n.0 c.args.depth c.take_named.new.reader) c.args.depth
    c.in_ok-first.first c.in_ok-rest.rest c.take_in_order.new.reader all split c.requires.distinct n.1 n.2 n.3 t
