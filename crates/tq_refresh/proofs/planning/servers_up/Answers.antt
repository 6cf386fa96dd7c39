use Rattle.std.proofs.Common.{◌≡◌, ◌+◌, ap, sym, ◌∙◌, arith}
use Rattle.tq_shape.specs.Tree.{Server}
use Rattle.tq_refresh.proofs.{Marked.{one_up, one_down}, planning.servers_up.Goals.{then-is_up, else-is_up}}
use Rattle.tq_refresh.proofs.planning.servers_up.Goals as goal

pub loop-below-preserved : goal.loop-below-preserved
loop-below-preserved c =
    let live = c.args.tree.now in
    let server = c.new-server.result in
    let after : c.loop-below.below + 1 ≡ 1 + c.loop-below.below = omega arith in
    let number : server.number ≡ 1 + c.loop-below.below = ap (λ (s : Server). s.number) c.new-server.ensures ∙ after in
    elim c.if-is_up.branch [
      | then-is_up w ↦
          one_up live c.loop-below.below server c.loop-below.up c.if-is_up.up c.loop-below.invariant number (sym c.is_up.ensures ∙ w.if-is_up.true) (λ less. w.up-is ∙ w.insert.ensures.last less)
      | else-is_up w ↦ one_down live c.loop-below.below server c.loop-below.up c.if-is_up.up c.loop-below.invariant number (sym c.is_up.ensures ∙ w.if-is_up.false) w.up-is
    ]
