use Rattle.std.proofs.Common.{◌≡◌, ◌<◌, ◌+◌, ◌*◌, ◌-◌, ◌%◌, suc, length, take, drop, slice_index_or, slice_set, ap, sym, refl, ◌∙◌, arith}
use Rattle.std.{proofs.lemmas.List.{length-set, set-get_or}, specs.List.insert}
use Rattle.tq_locks.specs.Keys.{turn, turned_keys}
use borrow.Rule.Slice.PartMut.{put_mid}
use Rattle.tq_locks.proofs.{Rings.{length-turn, behind_others}, Blocks.{written_over, length-block, at_end}}
use Rattle.tq_locks.proofs.keys.take_from_block.Goals as goal

pub returns-then-place-eq0-clause-taken : goal.returns-then-place-eq0-clause-taken
returns-then-place-eq0-clause-taken c =
    let b = c.args.block in
    let places = c.args.places.now in
    let key = c.args.key in
    let block = take (b * 2048 + 2048 - b * 2048) (drop (b * 2048) places) in
    let start = slice_index_or c.args.starts.now b 0 in
    let next = (start + 1) % 2048 in
    let keys = slice_set block start key in
    let size : length block ≡ 2048 = length-block places b (length c.args.starts.now) c.requires.within.0 c.requires.blocks.0 in
    let within : start < length block = omega (arith, size, c.requires.blocks.2 b 0 c.requires.within.0) in
    written_over c.args.starts.now places keys b next 2048 0 key (slice_index_or block start 0) (2048 * suc b) (2048 * b + c.args.place)
    c.requires.within.0 c.requires.blocks.0 (length-set block start key ∙ size) (omega arith) (omega arith) (omega arith) (omega (arith, c.if-place-eq0.true))
    (sym (behind_others block start next key within size refl) ∙ sym (at_end (turn start block) 2048 key (length-turn start block ∙ size)))

pub returns-then-start-place-lt-BLOCK-clause-taken : goal.returns-then-start-place-lt-BLOCK-clause-taken
returns-then-start-place-lt-BLOCK-clause-taken c =
    let b = c.args.block in
    let starts = c.args.starts.now in
    let places = c.args.places.now in
    let place = c.args.place in
    let key = c.args.key in
    let keys = c.take_before.new.keys in
    let block = take (b * 2048 + 2048 - b * 2048) (drop (b * 2048) places) in
    let start = slice_index_or starts b 0 in
    let size : length block ≡ 2048 = length-block places b (length starts) c.requires.within.0 c.requires.blocks.0 in
    written_over starts places keys b (start + 1) 2048 place key c.take_before.result (2048 * suc b) (2048 * b + place)
    c.requires.within.0 c.requires.blocks.0 (c.take_before.auto.keys ∙ size) (omega arith) (omega (arith, c.requires.within.1)) (omega arith) (omega arith)
    (c.take_before.ensures ∙ sym (at_end (turn start block) 2048 key (length-turn start block ∙ size)))

pub returns-clause-taken : goal.returns-clause-taken
returns-clause-taken c =
    let b = c.args.block in
    let starts = c.args.starts.now in
    let places = c.args.places.now in
    let place = c.args.place in
    let key = c.args.key in
    let keys = c.take_behind.new.keys in
    let taken = c.take_behind.result in
    let at = 2048 * b + place in
    let block = take (b * 2048 + 2048 - b * 2048) (drop (b * 2048) places) in
    let start = slice_index_or starts b 0 in
    let size : length block ≡ 2048 = length-block places b (length starts) c.requires.within.0 c.requires.blocks.0 in
    ap (λ ss. insert (turned_keys ss (put_mid (b * 2048) (b * 2048 + 2048 - b * 2048) places keys)) at taken) (sym (set-get_or starts b 0))
    ∙ written_over starts places keys b start 2048 place key taken (2048 * suc b) at
    c.requires.within.0 c.requires.blocks.0 (c.take_behind.auto.keys ∙ size) (omega arith) (omega (arith, c.requires.within.1)) (omega arith) (omega arith)
    (c.take_behind.ensures ∙ sym (at_end (turn start block) 2048 key (length-turn start block ∙ size)))
