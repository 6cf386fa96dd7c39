use Rattle.std.proofs.Common.{◌≡◌, ap, sym, ◌∙◌}
use Rattle.tq_shape.specs.{declared.server.Sides.Sides, Tree.{left_of, right_of, height_of}}
use Rattle.tq_coterie.{specs.Coterie.has, proofs.Sets.{holds-from, holds-at_leaf}}
use Rattle.tq_coterie.proofs.holding.+holds_member_under.Goals as goal

pub returns-in-Some : goal.returns-in-Some
returns-in-Some t c =
    let top = c.args.top in
    let left = c.in-Some.sides.left in
    let right = c.in-Some.sides.right in
    let value = c.in-Some.ensures.value.1 in
    let is_left : left.number ≡ left_of top.number = ap (λ (p : Sides). p.left.number) value in
    let is_right : right.number ≡ right_of top.number = ap (λ (p : Sides). p.right.number) value in
    c.two_of.ensures
    ∙ holds-from (has c.args.numbers.now) (height_of top.levels top.number) (height_of left.levels left.number) (height_of right.levels right.number) top.number left.number right.number c.contains-chosen.result c.holds_member_under.result c.holds_member_under-in-Some.result
    c.in-Some.ensures.left_height c.in-Some.ensures.right_height is_left is_right (rw c.number.ensures.value at (sym c.contains-chosen.ensures.value)) c.holds_member_under.ensures c.holds_member_under-in-Some.ensures

pub returns-in-None : goal.returns-in-None
returns-in-None t c =
    holds-at_leaf (has c.args.numbers.now) (height_of c.args.top.levels c.args.top.number) c.args.top.number c.contains-chosen.result c.in-None.ensures.leaf
    (rw c.number.ensures.value at (sym c.contains-chosen.ensures.value))
