use Rattle.std.proofs.Common.{◌≡◌, ℕ, ◌+◌, ◌++◌, ◌∷◌, [], List, length, replicate, ap, sym, ◌∙◌, arith}
use Rattle.std.proofs.lemmas.List.{length-replicate, replicate_more}
use Rattle.tq_node.specs.NodeJournal.{NodeEntry}
use Rattle.tq_shape.specs.Tree.{Server}
use Rattle.tq_tables.{specs.Parts.{node_after_all, nodes_at}, proofs.RowLaws.nodes_at-push}
use Rattle.tq_tables.proofs.parts.new_nodes.Goals as goal

pub loop-below-preserved : goal.loop-below-preserved
loop-below-preserved c =
    let levels = c.args.levels in
    let below = c.loop-below.below in
    let none : List NodeEntry = [] in
    let count = length-replicate below none in
    let number : below + 1 ≡ 1 + length (replicate below none) = omega (arith, count) in
    let node : c.new.result ≡ node_after_all levels (1 + length (replicate below none)) [] =
    c.new.ensures ∙ ap (λ (s : Server). node_after_all levels s.number []) c.new-server.ensures ∙ ap (λ (n : ℕ). node_after_all levels n []) number in
    c.in_ok-push.ensures.items
    ∙ (λ j. c.loop-below.invariant j ++ node j ∷ [])
    ∙ sym (nodes_at-push levels 1 (replicate below none) none)
    ∙ ap (nodes_at levels 1) (replicate_more below none)
