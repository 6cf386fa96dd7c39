use Rattle.std.proofs.Common.{rules, ◌≡◌, ◌-◌, ◌+◌, ◌∷◌, List, ℕ, length, drop, slice_index_or, arith, ap, sym, subst}
use Rattle.std.{proofs.lemmas.List.{drop_more, drop_all}, specs.List.Contains}
use Rattle.tq_coterie.{specs.Coterie.members, proofs.Members.{Contains-leaf, Contains-with_side}}
use Rattle.tq_coterie.proofs.membership.is_path.Goals as goal

pub loop-number-preserved : goal.loop-number-preserved
loop-number-preserved c = λ at.
    let below = c.in-Some.below.now in
    let place = c.loop-number.number-index in
    let top = c.loop-number.top in
    let side : ℕ = slice_index_or below place 0 in
    let rest : List ℕ = drop (place + 1) below in
    c.loop-number.invariant
    (subst (λ (left : List ℕ). Contains (members (length left) top) (top ∷ left)) (sym (drop_more below place 0 c.loop-number-test.true))
    (Contains-with_side (length rest) top side (side ∷ rest) (omega (arith, c.if-number-top.false)) at))

pub returns : goal.returns
returns c = λ e.
    let below = c.in-Some.below.now in
    let top = c.loop-number.top in
    let whole : Contains (members (length below) 1) (1 ∷ below) =
    c.loop-number.invariant
    (subst (λ (left : List ℕ). Contains (members (length left) top) (top ∷ left)) (sym (drop_all c.loop-number.number-index below (omega (arith, c.loop-number-test.false)))) (Contains-leaf top)) in
    let numbers : c.args.numbers.now ≡ 1 ∷ below = search rules in
    let height : length below ≡ c.args.levels - 1 =
    omega (arith, ap (λ (all : List ℕ). length all) numbers, c.if-numbers-count.false, c.count.ensures.value) in
    rw numbers (rw (sym height) whole)
