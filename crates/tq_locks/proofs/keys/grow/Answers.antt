use Rattle.std.proofs.Common.{◌≡◌, ◌+◌, ◌*◌, ◌∷◌, [], length, ap, ◌∙◌, arith, ◌++◌}
use Rattle.tq_locks.{specs.Keys.turned_keys, proofs.Blocks.one_block_more}
use Rattle.tq_locks.proofs.keys.grow.Goals as goal

pub returns-in_ok-reserve-2-clause-same : goal.returns-in_ok-reserve-2-clause-same
returns-in_ok-reserve-2-clause-same c =
    let starts = c.args.starts.now.items in
    let places = c.args.places.now.items in
    let full : length places ≡ 2048 * length starts + 2048 = omega (arith, c.requires, c.if-len-eq-BLOCK.true, c.len.ensures.value, c.len-2.ensures, ap length c.reserve.ensures.items) in
    (λ i. turned_keys ((c.push_reserved.ensures.items ∙ ap (λ ks. ks ++ 0 ∷ []) c.in_ok-reserve-2.ensures.items) i) (c.reserve.ensures.items i))
    ∙ one_block_more starts places full
