use Rattle.std.proofs.{Common.{◌==◌, ◌∙◌, ℕ, Option, false, nat_lt, sym, ap, rules, arith}, lemmas.Bool.false≢true}
use Rattle.std.proofs.lemmas.{Option.slice_get_past, List.Sorted.IsPartitionPoint-from_clause}
use Rattle.std.specs.Option.{option_map_or}
use Rattle.tq_shape.specs.Tree.{Server}
use Rattle.tq_txn_states.proofs.Searched.{has-map, none_below, found_at, parted, stands_there}
use Rattle.tq_txn_states.proofs.servers.place_of.Goals as goal

abbrev number : Server → ℕ
number id = id.number

pub returns-then-stands_at-clause-there : goal.returns-then-stands_at-clause-there
returns-then-stands_at-clause-there c =
    let is = sym c.stands_at.ensures.value ∙ c.if-stands_at.true in
    is ∙ sym (has-map number c.args.ids.now c.args.number ∙ stands_there number c.args.number c.args.ids.now c.args.likely is)

pub returns-then-stands_at-clause-place : goal.returns-then-stands_at-clause-place
returns-then-stands_at-clause-place c = λ none.
    let is = sym c.stands_at.ensures.value ∙ c.if-stands_at.true in
    absurd (false≢true (sym none ∙ has-map number c.args.ids.now c.args.number ∙ stands_there number c.args.number c.args.ids.now c.args.likely is))

pub returns-then-is_above-clause-there : goal.returns-then-is_above-clause-there
returns-then-is_above-clause-there c =
    let none = has-map number c.args.ids.now c.args.number ∙ none_below number c.args.number c.args.ids.now (c.is_above.ensures c.if-is_above.true) in
    ap (λ (o : Option Server). option_map_or (λ (id : Server). id.number == c.args.number) o false) (slice_get_past c.args.ids.now _ (omega arith)) ∙ sym none

pub returns-clause-there : goal.returns-clause-there
returns-clause-there c =
    let point = IsPartitionPoint-from_clause (λ (id : Server). nat_lt id.number c.args.number) _ _ c.partition_point.ensures.partitioned (parted number c.args.number c.args.ids.now c.requires) (λ a r q k. search rules) in
    sym (has-map number c.args.ids.now c.args.number ∙ found_at number c.args.number c.args.ids.now c.partition_point.result c.requires point)

pub returns-clause-place : goal.returns-clause-place
returns-clause-place c = λ none.
    IsPartitionPoint-from_clause (λ (id : Server). nat_lt id.number c.args.number) _ _ c.partition_point.ensures.partitioned (parted number c.args.number c.args.ids.now c.requires) (λ a r q k. search rules)
