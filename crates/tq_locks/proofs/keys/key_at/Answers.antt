use Rattle.std.proofs.{Common.{◌<◌, ◌/◌, ◌%◌, length, Some, ap, sym, ◌∙◌, arith}, Math.Nat.mod-lt}
use Rattle.std.proofs.lemmas.Option.{slice_get-get_or, slice_get_past}
use Rattle.tq_locks.{specs.Keys.turned_keys, proofs.Blocks.{length-turned, key_in_block, key_behind}}
use Rattle.tq_locks.proofs.keys.key_at.Goals as goal

pub returns-then-at-places : goal.returns-then-at-places
returns-then-at-places c =
    let starts = c.args.starts.now in
    let places = c.args.places.now in
    sym (slice_get_past (turned_keys starts places) c.args.at (omega (arith, c.if-at-places.true, length-turned starts places)))

pub returns-then-block-starts : goal.returns-then-block-starts
returns-then-block-starts c =
    let starts = c.args.starts.now in
    let places = c.args.places.now in
    let at = c.args.at in
    let high : at < length places = omega (arith, c.if-at-places.false) in
    ap (λ k. Some k) (key_behind starts places at (omega (arith, c.if-block-starts.true)) high)
    ∙ sym (slice_get-get_or (turned_keys starts places) at 0 (omega (arith, high, length-turned starts places)))

pub returns : goal.returns
returns c =
    let starts = c.args.starts.now in
    let places = c.args.places.now in
    let at = c.args.at in
    let block = at / 2048 in
    let high : at < length places = omega (arith, c.if-at-places.false) in
    let within : block < length starts = omega (arith, c.if-block-starts.false) in
    ap (λ k. Some k) (key_in_block starts places block (at % 2048) at within c.requires.0 (c.requires.2 block 0 within) (mod-lt at (omega arith)) (omega arith))
    ∙ sym (slice_get-get_or (turned_keys starts places) at 0 (omega (arith, high, length-turned starts places)))
