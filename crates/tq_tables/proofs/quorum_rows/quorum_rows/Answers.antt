use Rattle.std.proofs.{Common.{◌≡◌, ◌+◌, ◌++◌, ◌∷◌, [], map, ap, sym, ◌∙◌, arith}, lemmas.List.map-append}
use Rattle.tq_live.specs.View.{upwards}
use Rattle.tq_shape.specs.Tree.{Server}
use Rattle.tq_tables.specs.Rows as spec
use Rattle.tq_tables.proofs.RowLaws.{upwards-push}
use Rattle.tq_tables.proofs.quorum_rows.quorum_rows.Goals as goal

pub loop-below-preserved : goal.loop-below-preserved
loop-below-preserved c =
    let live = c.args.tree.now in
    let below = c.loop-below.below in
    let after : below + 1 ≡ 1 + below = omega arith in
    let row : c.in_ok-row.row ≡ spec.quorum_row live (1 + below) =
    c.in_ok-row.ensures ∙ ap (λ (s : Server). spec.quorum_row live s.number) c.new-server.ensures ∙ ap (spec.quorum_row live) after in
    c.in_ok-push.ensures.items
    ∙ (λ j. c.loop-below.invariant j ++ row j ∷ [])
    ∙ sym (map-append (spec.quorum_row live) (upwards 1 below) ((1 + below) ∷ []))
    ∙ ap (map (spec.quorum_row live)) (sym (upwards-push 1 below))
