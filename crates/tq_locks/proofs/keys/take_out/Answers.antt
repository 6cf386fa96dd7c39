use Rattle.std.proofs.{Common.{◌≡◌, ◌*◌, ◌<◌, length, ◌+◌, ap, refl, ◌∙◌, arith}, lemmas.List.get_or_read}
use Rattle.std.{proofs.lemmas.List.Edits.length-remove, specs.List.{insert, remove}}
use Rattle.tq_locks.specs.Keys.{turned_keys}
use Rattle.tq_locks.proofs.Blocks.{none_past, remove_behind, taken_out, refilled, length-turned}
use Rattle.tq_locks.proofs.keys.take_out.Goals as goal

pub returns-then-place-len-clause-taken : goal.returns-then-place-len-clause-taken
returns-then-place-len-clause-taken c =
    let starts = c.args.starts.now.items in
    let places = c.args.places.now.items in
    none_past (turned_keys starts places) c.args.place (omega (arith, c.if-place-len.true, c.len.ensures.value, length-turned starts places))

pub returns-then-place-behind-clause-taken : goal.returns-then-place-behind-clause-taken
returns-then-place-behind-clause-taken c =
    let starts = c.settle.new.starts.items in
    let places = c.settle.new.places.items in
    let place = c.args.place in
    ap (turned_keys starts) c.remove.ensures.items
    ∙ remove_behind starts places place (omega (arith, c.if-place-behind.true, c.len-behind.ensures)) (omega (arith, c.if-place-len.false, c.len.ensures.value, c.settle.ensures.len))
    ∙ ap (λ ks. remove ks place) c.settle.ensures.same

pub returns-clause-taken : goal.returns-clause-taken
returns-clause-taken c =
    let starts = c.settle.new.starts.items in
    let places = c.settle.new.places.items in
    let rest = c.remove-first.new.self.items in
    let new_starts = c.pull_through-taken.new.starts in
    let new_places = c.pull_through-taken.new.places in
    let place = c.args.place in
    let low = c.len-behind.result * 2048 in
    let first = c.remove-first.result in
    let starts_len : length new_starts ≡ length starts = c.pull_through-taken.auto.starts ∙ ap length c.as_mut_slice.ensures.value in
    let places_len : length new_places ≡ length rest = c.pull_through-taken.auto.places ∙ ap length c.as_mut_slice-2.ensures.value in
    let some : 0 < length places = omega (arith, c.if-place-len.false, c.len.ensures.value, c.settle.ensures.len) in
    let behind : low < length places = omega (arith, c.settle.ensures.behind some, c.len-behind.ensures) in
    let low_is : low ≡ 2048 * length starts = omega (arith, c.len-behind.ensures) in
    let rest_len : length rest + 1 ≡ length places = ap (λ ks. length ks + 1) c.remove-first.ensures.items ∙ length-remove places low behind in
    (λ i. turned_keys (refilled starts new_starts c.settle.new.starts.len starts_len (omega arith) i) (refilled rest new_places (length rest) places_len refl i))
    ∙ taken_out new_starts new_places starts places place low first c.pull_through-taken.result
    (omega (arith, places_len, rest_len, c.if-place-behind.false, behind)) low_is behind (get_or_read places low first behind c.remove-first.ensures.value 0)
    (c.pull_through-taken.ensures.taken ∙ (λ i. insert (turned_keys (c.as_mut_slice.ensures.value i) ((c.as_mut_slice-2.ensures.value ∙ c.remove-first.ensures.items) i)) (2048 * length (c.as_mut_slice.ensures.value i)) first))
    ∙ ap (λ ks. remove ks place) c.settle.ensures.same
