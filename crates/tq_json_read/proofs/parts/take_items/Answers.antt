use Rattle.std.proofs.Common.{◌≡◌, ◌≤◌, ◌++◌, [], ◌∷◌, length, Some, None, sym, ap, ◌∙◌, arith, rules}
use Rattle.json.specs.Json.{parse_map, after_end_array}
use Rattle.serde_json.specs.Data.{Data, no_items, item}
use Rattle.tq_json.proofs.Nexts.{items_go, items_stop, items_end}
use Rattle.tq_json_read.proofs.Rows.{before, none_before, one_more, goes_first, goes_on, all_read, one_is_none, empty_fits, full_is_none, still_fits}
use Rattle.tq_json_read.proofs.parts.take_items.Goals as goal

pub items-init : goal.items-init
items-init g c =
    let form = λ (value : Data). g.T.FromReader.at c.args.plan.now (Some value) in
    ([], none_before _, goes_first form _ c.new-found.ensures.items, empty_fits c.args.most _ c.new-found.ensures.items, omega arith)

pub returns-in_err-item-clause-err : goal.returns-in_err-item-clause-err
returns-in_err-item-clause-err g c refused =
    let l = c.items in
    let going : (after_end_array l.reader ≡ None) × (c.take_end_array.new.self ≡ l.reader) = grind arith in
    l.invariant.1 ∙ ap (parse_map (before l.invariant.0)) (items_stop c.args.depth l.reader going.0 (rw (← going.1) (c.read.ensures.err (grind arith))))

pub returns-in_err-pass_items-clause-err : goal.returns-in_err-pass_items-clause-err
returns-in_err-pass_items-clause-err g c refused =
    let l = c.items in
    let going : (after_end_array l.reader ≡ None) × (c.take_end_array.new.self ≡ l.reader) = grind arith in
    let d = c.in_ok-item.ensures.ok in
    let turn = items_go c.args.depth l.reader c.read.new.reader d.0 going.0 (rw (← going.1) d.1) in
    one_more l.invariant.0 d.0 _ _ _ l.invariant.1 turn ∙ ap (parse_map (before (l.invariant.0 ++ d.0 ∷ []))) (c.pass_items.ensures.err (grind arith))

pub returns-in_default-clause-ok : goal.returns-in_default-clause-ok
returns-in_default-clause-ok g c =
    let form = λ (value : Data). g.T.FromReader.at c.args.plan.now (Some value) in
    let l = c.items in
    let going : (after_end_array l.reader ≡ None) × (c.take_end_array.new.self ≡ l.reader) = grind arith in
    let d = c.in_ok-item.ensures.ok in
    let rest = c.in_ok-pass_items.ensures.ok in
    let turn = items_go c.args.depth l.reader c.read.new.reader d.0 going.0 (rw (← going.1) d.1) in (
      before l.invariant.0 (item d.0 rest.0),
      l.invariant.1 ∙ ap (parse_map (before l.invariant.0)) (turn ∙ ap (parse_map (item d.0)) rest.1),
      one_is_none form c.args.most l.invariant.0 l.found.items d.0 rest.0 l.invariant.2 (sym c.in_default.is ∙ d.2),
    )

pub returns-in_err-pass_items-2-clause-err : goal.returns-in_err-pass_items-2-clause-err
returns-in_err-pass_items-2-clause-err g c refused =
    let l = c.items in
    let going : (after_end_array l.reader ≡ None) × (c.take_end_array.new.self ≡ l.reader) = grind arith in
    let d = c.in_ok-item.ensures.ok in
    let turn = items_go c.args.depth l.reader c.read.new.reader d.0 going.0 (rw (← going.1) d.1) in
    one_more l.invariant.0 d.0 _ _ _ l.invariant.1 turn ∙ ap (parse_map (before (l.invariant.0 ++ d.0 ∷ []))) (c.pass_items-then-is_full.ensures.err (grind arith))

pub returns-then-is_full-clause-ok : goal.returns-then-is_full-clause-ok
returns-then-is_full-clause-ok g c =
    let form = λ (value : Data). g.T.FromReader.at c.args.plan.now (Some value) in
    let l = c.items in
    let going : (after_end_array l.reader ≡ None) × (c.take_end_array.new.self ≡ l.reader) = grind arith in
    let d = c.in_ok-item.ensures.ok in
    let rest = c.in_ok-pass_items-2.ensures.ok in
    let turn = items_go c.args.depth l.reader c.read.new.reader d.0 going.0 (rw (← going.1) d.1) in
    let count : c.len.result ≡ length l.found.items = search rules in (
      before l.invariant.0 (item d.0 rest.0),
      l.invariant.1 ∙ ap (parse_map (before l.invariant.0)) (turn ∙ ap (parse_map (item d.0)) rest.1),
      full_is_none form c.args.most l.invariant.0 l.found.items d.0 c.in-Some.item rest.0 c.len.result c.is_full.result l.invariant.2 (sym c.in-Some.is ∙ d.2) count c.is_full.ensures (grind arith),
    )

pub items-preserved : goal.items-preserved
items-preserved g c =
    let form = λ (value : Data). g.T.FromReader.at c.args.plan.now (Some value) in
    let l = c.items in
    let going : (after_end_array l.reader ≡ None) × (c.take_end_array.new.self ≡ l.reader) = grind arith in
    let d = c.in_ok-item.ensures.ok in
    let turn = items_go c.args.depth l.reader c.read.new.reader d.0 going.0 (rw (← going.1) d.1) in
    let less : length c.read.new.reader ≤ length l.reader = omega (arith, going.1, c.in_ok-item.ensures.shorter, ap length going.1) in
    let count : c.len.result ≡ length l.found.items = search rules in
    let pushed : c.push_reserved.new.self.items ≡ l.found.items ++ c.in-Some.item ∷ [] = search rules in (
      l.invariant.0 ++ d.0 ∷ [],
      one_more l.invariant.0 d.0 _ _ _ l.invariant.1 turn,
      goes_on form l.invariant.0 l.found.items _ d.0 c.in-Some.item l.invariant.2 (sym c.in-Some.is ∙ d.2) pushed,
      still_fits c.args.most l.found.items _ c.in-Some.item c.len.result c.is_full.result count c.is_full.ensures (grind arith) pushed,
      omega (arith, l.invariant.4),
    )

pub returns-clause-ok : goal.returns-clause-ok
returns-clause-ok g c =
    let form = λ (value : Data). g.T.FromReader.at c.args.plan.now (Some value) in
    let l = c.items in
    let done = items_end c.args.depth l.reader c.take_end_array.new.self (grind arith) in (
      before l.invariant.0 no_items,
      l.invariant.1 ∙ ap (parse_map (before l.invariant.0)) done,
      ap Some c.from_vec.ensures ∙ all_read form c.args.most l.invariant.0 l.found.items l.invariant.2 l.invariant.3,
    )
