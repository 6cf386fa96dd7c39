use Rattle.std.{proofs.Common.{◌≡◌, ◌*◌, length, ap, refl, ◌∙◌, arith}, specs.List.insert}
use Rattle.tq_locks.{specs.Keys.turned_keys, proofs.Blocks.{put_behind, refilled}}
use Rattle.tq_locks.proofs.keys.put_within.Goals as goal

pub returns-clause-put : goal.returns-clause-put
returns-clause-put c =
    let starts = c.args.starts.now.items in
    let places = c.args.places.now.items in
    let new_starts = c.push_through-last.new.starts in
    let new_places = c.push_through-last.new.places in
    let last = c.push_through-last.result in
    let starts_len : length new_starts ≡ length starts = c.push_through-last.auto.starts ∙ ap length c.as_mut_slice.ensures.value in
    let places_len : length new_places ≡ length places = c.push_through-last.auto.places ∙ ap length c.as_mut_slice-2.ensures.value in
    let count : c.len.result ≡ length new_starts = omega (arith, c.len.ensures, starts_len) in
    (λ i. turned_keys (refilled starts new_starts c.args.starts.now.len starts_len (omega arith) i) (c.put_plain.ensures i))
    ∙ (λ i. turned_keys new_starts (insert (refilled places new_places (length places) places_len refl i) (count i * 2048) last))
    ∙ put_behind new_starts new_places starts places c.args.place c.args.key last c.push_through-last.ensures.blocks.0
    (c.push_through-last.ensures.put ∙ (λ i. insert (turned_keys (c.as_mut_slice.ensures.value i) (c.as_mut_slice-2.ensures.value i)) c.args.place c.args.key))
