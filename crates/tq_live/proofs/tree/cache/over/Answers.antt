use Rattle.std.proofs.Common.{◌*◌, ◌≤◌, IfSome}
use Rattle.tq_live.specs.{Subtree.{Over, leaves}, Kept.weight_of, declared.purpose.Purpose.Purpose}
use Rattle.tq_live.specs.declared.purpose.Purpose.TheVariants.{Read, Write}
use Rattle.tq_live.proofs.Repair.{column_over-is, blocker_over-is, cache_over-is, over-at_most}
use Rattle.tq_live.specs.declared.least.SearchFor.TheVariants as soughts
use Rattle.tq_live.proofs.tree.cache.over.Goals as goal

pub returns-clause-cache : goal.returns-clause-cache
returns-clause-cache c =
    let costs = c.args.costs in
    let up = c.args.up in
    let left = c.args.sides.now.left in
    let right = c.args.sides.now.right in
    cache_over-is costs up left right c.column_of-read.result.least c.column_of-write.result.least c.column_of-read.result.form c.column_of-write.result.form c.blocker_form-blocker.result
    (column_over-is Read costs up left right c.weight.result c.least-left.result c.least-right.result c.column_of-read.result c.weight.ensures.value c.least-left.ensures.value c.least-right.ensures.value c.column_of-read.ensures)
    (column_over-is Write costs up left right c.weight-2.result c.least-write_left.result c.least-write_right.result c.column_of-write.result c.weight-2.ensures.value c.least-write_left.ensures.value c.least-write_right.ensures.value c.column_of-write.ensures)
    (blocker_over-is costs up left right c.blocker_form-blocker.result c.least-left.result c.least-right.result c.is_there.result c.is_there-2.result c.least-left.ensures.value c.least-right.ensures.value c.is_there.ensures c.is_there-2.ensures c.blocker_form-blocker.ensures)

pub returns-clause-bounded : goal.returns-clause-bounded
returns-clause-bounded c = by_purpose
  where
    by_purpose : (purpose : Purpose) → IfSome (weight_of (soughts.Quorum purpose) (Over c.args.costs c.args.up c.args.sides.now.left c.args.sides.now.right)) (λ weight. weight ≤ 1000000 * leaves (Over c.args.costs c.args.up c.args.sides.now.left c.args.sides.now.right))
    by_purpose Read = over-at_most Read c.args.costs c.args.up c.args.sides.now.left c.args.sides.now.right c.least-left.result c.least-right.result c.requires.cost c.least-left.ensures.value c.least-right.ensures.value c.least-left.ensures.bounded c.least-right.ensures.bounded
    by_purpose Write = over-at_most Write c.args.costs c.args.up c.args.sides.now.left c.args.sides.now.right c.least-write_left.result c.least-write_right.result c.requires.cost c.least-write_left.ensures.value c.least-write_right.ensures.value c.least-write_left.ensures.bounded c.least-write_right.ensures.bounded
