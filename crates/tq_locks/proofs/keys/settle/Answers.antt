use Rattle.std.proofs.Common.{◌≡◌, ◌+◌, ◌-◌, ◌*◌, ◌∷◌, [], ◌++◌, length, take, drop, ap, sym, refl, ◌∙◌, arith}
use Rattle.std.proofs.lemmas.List.{length-append}
use Rattle.tq_locks.{specs.Keys.{turned_keys, turn}, proofs.Blocks.{settled, refilled, length-block, length-over}}
use borrow.Rule.Slice.PartMut.{put_mid}
use Rattle.tq_locks.proofs.keys.settle.Goals as goal

pub returns-in-Some-clause-same : goal.returns-in-Some-clause-same
returns-in-Some-clause-same c =
    let starts = c.pop.new.self.items in
    let start = c.in-Some.start in
    let places = c.args.places.now.items in
    let n = c.len-low.result in
    let low = n * 2048 in
    let k = low + 2048 - low in
    let lent = c.as_mut_slice.result.now in
    let block = c.rotate_left.new.self in
    let same : lent ≡ places = c.as_mut_slice.ensures.value in
    let was : c.args.starts.now.items ≡ starts ++ start ∷ [] = c.in-Some.ensures.items in
    let one_less : length starts + 1 ≡ length c.args.starts.now.items = omega (arith, ap length was, length-append starts (start ∷ [])) in
    let is : n ≡ length starts = omega (arith, c.len-low.ensures) in
    let all : length places ≡ low + 2048 = omega (arith, c.if-len.true, c.len.ensures.value, c.len-2.ensures, is, one_less) in
    let block_len : length block ≡ 2048 = c.rotate_left.ensures.len ∙ length-block lent n (n + 1) (omega arith) (omega (arith, all, ap length same)) in
    let whole : length (put_mid low k lent block) ≡ length places = length-over low k lent block (omega (arith, all, ap length same)) (omega (arith, block_len)) ∙ ap length same in
    ap (turned_keys starts) (refilled places (put_mid low k lent block) (length places) whole refl ∙ ap (λ ks. put_mid low k ks block) same)
    ∙ settled starts start places block low k (omega (arith, is)) (omega arith) (omega (arith, all)) (c.rotate_left.ensures.after ∙ ap (λ ks. turn start (take k (drop low ks))) same)
    ∙ ap (λ ss. turned_keys ss places) (sym was)
