use Rattle.std.proofs.Common.{◌≡◌, ◌<◌, ◌≤◌, ◌+◌, ◌*◌, ◌-◌, ◌%◌, ℕ, List, [], ◌∷◌, ◌++◌, suc, length, take, drop, get_or, slice_index_or, slice_set, ap, sym, refl, ◌∙◌, arith}
use Rattle.std.{proofs.lemmas.List.{length-set, set-get_or}, specs.List.insert}
use Rattle.tq_locks.specs.Keys.{turn, turned_keys}
use borrow.Rule.Slice.PartMut.{put_mid}
use Rattle.tq_locks.proofs.{Rings.{length-turn, not_turned, before_others}, Blocks.{written_over, length-block, at_end}}
use Rattle.tq_locks.proofs.keys.put_in_block.Goals as goal

pub returns-then-place-eq0-clause-put : goal.returns-then-place-eq0-clause-put
returns-then-place-eq0-clause-put c =
    let b = c.args.block in
    let places = c.args.places.now in
    let key = c.args.key in
    let block = take (b * 2048 + 2048 - b * 2048) (drop (b * 2048) places) in
    let start = slice_index_or c.args.starts.now b 0 in
    let before = (start + 2048 - 1) % 2048 in
    let keys = slice_set block before key in
    let last = slice_index_or block before 0 in
    let size : length block ≡ 2048 = length-block places b (length c.args.starts.now) c.requires.within.0 c.requires.blocks.0 in
    let same : length keys ≡ 2048 = length-set block before key ∙ size in
    let within : start < length block = omega (arith, size, c.requires.blocks.2 b 0 c.requires.within.0) in
    written_over c.args.starts.now places keys b before 0 2048 key last (2048 * b + c.args.place) (2048 * suc b)
    c.requires.within.0 c.requires.blocks.0 same (omega arith) (omega arith) (omega (arith, c.if-place-eq0.true)) (omega arith)
    (at_end (turn before keys) 2048 last (length-turn before keys ∙ same) ∙ before_others block start before key within size refl)

module _ (starts places : List ℕ) (b : ℕ) (within : b < length starts) (fits : 2048 * length starts ≤ length places) where
  abbrev block : List ℕ
  block = take (b * 2048 + 2048 - b * 2048) (drop (b * 2048) places)

  -- a key that has come into a block, which begins at that place now
  put_over : (start place key last : ℕ) (keys : List ℕ) → length keys ≡ length block → place < 2048
      → turn start keys ++ last ∷ [] ≡ insert (turn (get_or starts b 0) block) place key
      → insert (turned_keys (slice_set starts b start) (put_mid (b * 2048) (b * 2048 + 2048 - b * 2048) places keys)) (2048 * suc b) last
      ≡ insert (turned_keys starts places) (2048 * b + place) key
  put_over start place key last keys same small put =
      let size : length keys ≡ 2048 = same ∙ length-block places b (length starts) within fits in
      written_over starts places keys b start place 2048 key last (2048 * b + place) (2048 * suc b)
      within fits size (omega (arith, small)) (omega arith) (omega arith) (omega arith)
      (at_end (turn start keys) 2048 last (length-turn start keys ∙ size) ∙ put)

  -- the same, where it begins at the place at which it did
  put_under : (place key last : ℕ) (keys : List ℕ) → length keys ≡ length block → place < 2048
      → turn (get_or starts b 0) keys ++ last ∷ [] ≡ insert (turn (get_or starts b 0) block) place key
      → insert (turned_keys starts (put_mid (b * 2048) (b * 2048 + 2048 - b * 2048) places keys)) (2048 * suc b) last
      ≡ insert (turned_keys starts places) (2048 * b + place) key
  put_under place key last keys same small put =
      ap (λ ss. insert (turned_keys ss (put_mid (b * 2048) (b * 2048 + 2048 - b * 2048) places keys)) (2048 * suc b) last) (sym (set-get_or starts b 0))
      ∙ put_over (get_or starts b 0) place key last keys same small put

pub returns-then-start-eq0-clause-put : goal.returns-then-start-eq0-clause-put
returns-then-start-eq0-clause-put c =
    let b = c.args.block in
    let block = take (b * 2048 + 2048 - b * 2048) (drop (b * 2048) c.args.places.now) in
    let keys = c.open.new.keys in
    let last = c.open.result in
    let first : slice_index_or c.args.starts.now b 0 ≡ 0 = omega (arith, c.if-start-eq0.true) in
    put_under c.args.starts.now c.args.places.now b c.requires.within.0 c.requires.blocks.0 c.args.place c.args.key last keys c.open.auto.keys c.requires.within.1
    (ap (λ n. turn n keys ++ last ∷ []) first ∙ ap (λ ks. ks ++ last ∷ []) (not_turned keys) ∙ c.open.ensures
    ∙ ap (λ ks. insert ks c.args.place c.args.key) (sym (not_turned block)) ∙ ap (λ n. insert (turn n block) c.args.place c.args.key) (sym first))

pub returns-then-start-place-lt-BLOCK-clause-put : goal.returns-then-start-place-lt-BLOCK-clause-put
returns-then-start-place-lt-BLOCK-clause-put c =
    put_over c.args.starts.now c.args.places.now c.args.block c.requires.within.0 c.requires.blocks.0 (slice_index_or c.args.starts.now c.args.block 0 - 1)
    c.args.place c.args.key c.put_before.result c.put_before.new.keys c.put_before.auto.keys c.requires.within.1 c.put_before.ensures

pub returns-clause-put : goal.returns-clause-put
returns-clause-put c =
    put_under c.args.starts.now c.args.places.now c.args.block c.requires.within.0 c.requires.blocks.0
    c.args.place c.args.key c.put_behind.result c.put_behind.new.keys c.put_behind.auto.keys c.requires.within.1 c.put_behind.ensures
