-- Keys in blocks, each of them turned, and keys behind them.
use Rattle.std.proofs.Common.{◌≡◌, ◌+◌, ◌-◌, ◌*◌, ◌%◌, ◌<◌, ◌≤◌, ◌++◌, ℕ, zero, suc, List, [], ◌∷◌, length, take, drop, get_or, slice_set, refl, ap, sym, subst, ◌∙◌, arith}
use Rattle.std.proofs.lemmas.List.{append_assoc, append-nil, length-append, length-drop, length-take-le, take-append-le, drop-append-le, take_at, drop_at, take-append-drop, set_split, drop_more, drop_all, take_all, get_or-drop, get_or-take, get_or_append_left, get_or-append_right}
use Rattle.std.proofs.lemmas.List.Edits.{length-remove, length-between, insert-append_left, insert-append_right, insert_end, remove-append_right}
use Rattle.std.proofs.lemmas.List.Sorted.{IsPermutation-refl, IsPermutation-append_comm, IsPermutation-trans, IsPermutation-append_left, IsPermutation-append_right}
use Rattle.std.{proofs.Math.Nat.mod-lt, specs.List.{insert, remove, Sorted.IsPermutation}}
use Rattle.smallvec.specs.SmallVec.{SmallVec, HasRoomFor}
use borrow.Rule.Slice.PartMut.{put_mid}
use Rattle.tq_locks.specs.Keys.{turn, turned_keys, keys_of, HasRoomBehind}
use Rattle.tq_locks.proofs.Rings.{length-turn, split_at, turned_key}

pub length-turned : (starts places : List ℕ) → length (turned_keys starts places) ≡ length places
length-turned [] places = refl
length-turned (start ∷ starts) places =
    let block = take 2048 places in
    let rest = drop 2048 places in
    length-append (turn start block) (turned_keys starts rest)
    ∙ (λ i. length-turn start block i + length-turned starts rest i)
    ∙ sym (length-append block rest)
    ∙ ap length (take-append-drop 2048 places)

-- blocks before others
before_others : (front back pre post : List ℕ) → length pre ≡ 2048 * length front → turned_keys (front ++ back) (pre ++ post) ≡ turned_keys front pre ++ turned_keys back post
before_others [] back [] post fits = refl
before_others [] back (key ∷ pre) post fits = absurd (omega (arith, fits))
before_others (start ∷ front) back pre post fits =
    let within : 2048 ≤ length pre = omega (arith, fits) in
    let left : length (drop 2048 pre) ≡ 2048 * length front = omega (arith, fits, length-drop 2048 pre) in
    let here = turn start (take 2048 pre) in
    (λ i. turn start (take-append-le 2048 pre post within i) ++ turned_keys (front ++ back) (drop-append-le 2048 pre post within i))
    ∙ ap (λ rest. here ++ rest) (before_others front back (drop 2048 pre) post left)
    ∙ sym (append_assoc here (turned_keys front (drop 2048 pre)) (turned_keys back post))

-- one block among others
among_others : (start : ℕ) (front back pre block post : List ℕ) → length pre ≡ 2048 * length front → length block ≡ 2048
    → turned_keys (front ++ start ∷ back) (pre ++ (block ++ post)) ≡ turned_keys front pre ++ (turn start block ++ turned_keys back post)
among_others start front back pre block post fits all =
    before_others front (start ∷ back) pre (block ++ post) fits
    ∙ (λ i. turned_keys front pre ++ (turn start (take_at block post 2048 all i) ++ turned_keys back (drop_at block post 2048 all i)))

-- a key comes into a block among others
put_among : (start place key : ℕ) (front back pre block post : List ℕ) → length pre ≡ 2048 * length front → length block ≡ 2048 → place ≤ 2048
    → insert (turned_keys (front ++ start ∷ back) (pre ++ (block ++ post))) (length pre + place) key ≡ turned_keys front pre ++ (insert (turn start block) place key ++ turned_keys back post)
put_among start place key front back pre block post fits all within =
    let before = turned_keys front pre in
    let here = turn start block in
    let behind = turned_keys back post in
    let moved : length pre + place - length pre ≡ place = omega arith in
    ap (λ keys. insert keys (length pre + place) key) (among_others start front back pre block post fits all)
    ∙ insert-append_right before (here ++ behind) (length pre) (length pre + place) key (length-turned front pre) (omega arith)
    ∙ ap (λ n. before ++ insert (here ++ behind) n key) moved
    ∙ ap (λ keys. before ++ keys) (insert-append_left here behind place key (omega (arith, within, all, length-turn start block)))

split_starts : (starts : List ℕ) (b : ℕ) → b < length starts → starts ≡ take b starts ++ get_or starts b 0 ∷ drop (b + 1) starts
split_starts starts b within = sym (take-append-drop b starts) ∙ ap (λ rest. take b starts ++ rest) (drop_more starts b 0 within)

pub at_end : (keys : List ℕ) (end key : ℕ) → length keys ≡ end → insert keys end key ≡ keys ++ key ∷ []
at_end keys end key all = ap (λ n. insert keys n key) (sym all) ∙ insert_end keys key

-- a block among others is as long
pub length-block : (places : List ℕ) (b count : ℕ) → b < count → 2048 * count ≤ length places → length (take (b * 2048 + 2048 - b * 2048) (drop (b * 2048) places)) ≡ 2048
length-block places b count within fits = length-between places (b * 2048) (b * 2048 + 2048) (omega (arith, within, fits)) ∙ omega arith

-- A block is written over. What a key in the old block makes, another key in the new one makes among all blocks too.
pub written_over : (starts places block : List ℕ) (b start p q key other to at : ℕ)
    → b < length starts → 2048 * length starts ≤ length places → length block ≡ 2048 → p ≤ 2048 → q ≤ 2048 → to ≡ 2048 * b + p → at ≡ 2048 * b + q
    → insert (turn start block) q other ≡ insert (turn (get_or starts b 0) (take (b * 2048 + 2048 - b * 2048) (drop (b * 2048) places))) p key
    → insert (turned_keys (slice_set starts b start) (put_mid (b * 2048) (b * 2048 + 2048 - b * 2048) places block)) at other ≡ insert (turned_keys starts places) to key
written_over starts places block b start p q key other to at within fits all first second goes comes same =
    let low = b * 2048 in
    let k = low + 2048 - low in
    let front = take b starts in
    let back = drop (b + 1) starts in
    let old = get_or starts b 0 in
    let pre = take low places in
    let here = take k (drop low places) in
    let post = drop k (drop low places) in
    let pre_len : length pre ≡ low = length-take-le low places (omega (arith, within, fits)) in
    let blocks : length pre ≡ 2048 * length front = omega (arith, pre_len, length-take-le b starts (omega (arith, within))) in
    let next : suc b ≡ b + 1 = omega arith in
    let set_is : slice_set starts b start ≡ front ++ start ∷ back = set_split starts b start within ∙ ap (λ n. front ++ start ∷ drop n starts) next in
    let to_is : length pre + p ≡ to = omega (arith, pre_len, goes) in
    let at_is : at ≡ length pre + q = omega (arith, pre_len, comes) in
    (λ i. insert (turned_keys (set_is i) (pre ++ (block ++ post))) (at_is i) other)
    ∙ put_among start q other front back pre block post blocks all second
    ∙ ap (λ keys. turned_keys front pre ++ (keys ++ turned_keys back post)) same
    ∙ sym (put_among old p key front back pre here post blocks (length-block places b (length starts) within fits) first)
    ∙ (λ i. insert (turned_keys (sym (split_starts starts b within) i) (sym (split_at low k places) i)) (to_is i) key)

-- Keys behind the blocks lie as they are.
pub behind_blocks : (starts xs ys : List ℕ) → 2048 * length starts ≤ length xs → turned_keys starts (xs ++ ys) ≡ turned_keys starts xs ++ ys
behind_blocks starts xs ys fits =
    let low = 2048 * length starts in
    let pre = take low xs in
    let post = drop low xs in
    let whole : pre ++ post ≡ xs = take-append-drop low xs in
    let parts : (zs : List ℕ) → turned_keys starts (pre ++ zs) ≡ turned_keys starts pre ++ zs =
    λ zs. ap (λ s. turned_keys s (pre ++ zs)) (sym (append-nil starts)) ∙ before_others starts [] pre zs (length-take-le low xs fits) in
    ap (λ ks. turned_keys starts (ks ++ ys)) (sym whole)
    ∙ ap (turned_keys starts) (append_assoc pre post ys)
    ∙ parts (post ++ ys)
    ∙ sym (append_assoc (turned_keys starts pre) post ys)
    ∙ ap (λ ks. ks ++ ys) (sym (parts post) ∙ ap (turned_keys starts) whole)

-- what happens from a place behind the blocks on
changed_behind : (starts places : List ℕ) (place : ℕ) (change part : List ℕ → List ℕ) → 2048 * length starts ≤ place → place ≤ length places
    → ((xs ys : List ℕ) → length xs ≡ place → change (xs ++ ys) ≡ xs ++ part ys)
    → turned_keys starts (change places) ≡ change (turned_keys starts places)
changed_behind starts places place change part low high law =
    let pre = take place places in
    let post = drop place places in
    let pre_len : length pre ≡ place = length-take-le place places high in
    let fits : 2048 * length starts ≤ length pre = omega (arith, low, pre_len) in
    let whole : pre ++ post ≡ places = take-append-drop place places in
    ap (λ ks. turned_keys starts (change ks)) (sym whole)
    ∙ ap (turned_keys starts) (law pre post pre_len)
    ∙ behind_blocks starts pre (part post) fits
    ∙ sym (law (turned_keys starts pre) post (length-turned starts pre ∙ pre_len))
    ∙ ap change (sym (behind_blocks starts pre post fits) ∙ ap (turned_keys starts) whole)

pub insert_behind : (starts places : List ℕ) (place key : ℕ) → 2048 * length starts ≤ place → place ≤ length places
    → turned_keys starts (insert places place key) ≡ insert (turned_keys starts places) place key
insert_behind starts places place key low high =
    changed_behind starts places place (λ ks. insert ks place key) (λ ks. insert ks (place - place) key) low high
    (λ xs ys all. insert-append_right xs ys place place key all (omega arith))

pub remove_behind : (starts places : List ℕ) (place : ℕ) → 2048 * length starts ≤ place → place ≤ length places
    → turned_keys starts (remove places place) ≡ remove (turned_keys starts places) place
remove_behind starts places place low high =
    changed_behind starts places place (λ ks. remove ks place) (λ ks. remove ks (place - place)) low high
    (λ xs ys all. remove-append_right xs ys place place all (omega arith))

-- a key that comes in goes again, and the other way round
put_and_taken : (keys : List ℕ) (place key : ℕ) → place ≤ length keys → remove (insert keys place key) place ≡ keys
put_and_taken keys zero key within = refl
put_and_taken [] (suc place) key within = absurd (omega (arith, within))
put_and_taken (k ∷ keys) (suc place) key within = ap (λ ks. k ∷ ks) (put_and_taken keys place key (omega (arith, within)))

taken_and_put : (keys : List ℕ) (place : ℕ) → place < length keys → insert (remove keys place) place (get_or keys place 0) ≡ keys
taken_and_put [] place within = absurd (omega (arith, within))
taken_and_put (k ∷ keys) zero within = refl
taken_and_put (k ∷ keys) (suc place) within = ap (λ ks. k ∷ ks) (taken_and_put keys place (omega (arith, within)))

pub none_past : (keys : List ℕ) (place : ℕ) → length keys ≤ place → keys ≡ remove keys place
none_past keys place past = sym ((λ i. take_all place keys past i ++ drop_all (suc place) keys (omega (arith, past)) i) ∙ append-nil keys)

-- the last block becomes plain keys, as it is turned
pub settled : (starts : List ℕ) (start : ℕ) (places keys : List ℕ) (low k : ℕ) → low ≡ 2048 * length starts → k ≡ 2048 → low + 2048 ≤ length places
    → keys ≡ turn start (take k (drop low places))
    → turned_keys starts (put_mid low k places keys) ≡ turned_keys (starts ++ start ∷ []) places
settled starts start places keys low k is all fits same =
    let pre = take low places in
    let block = take k (drop low places) in
    let post = drop k (drop low places) in
    let pre_len : length pre ≡ 2048 * length starts = length-take-le low places (omega (arith, fits)) ∙ is in
    let block_len : length block ≡ 2048 = length-take-le k (drop low places) (omega (arith, fits, all, length-drop low places)) ∙ all in
    behind_blocks starts pre (keys ++ post) (omega (arith, pre_len))
    ∙ ap (λ ks. turned_keys starts pre ++ (ks ++ post)) same
    ∙ sym (among_others start starts [] pre block post pre_len block_len)
    ∙ ap (turned_keys (starts ++ start ∷ [])) (sym (split_at low k places))

-- plain keys become a block
pub one_block_more : (starts places : List ℕ) → length places ≡ 2048 * length starts + 2048 → turned_keys (starts ++ 0 ∷ []) places ≡ turned_keys starts places
one_block_more starts places all =
    let low = 2048 * length starts in
    let block = take 2048 (drop low places) in
    sym (settled starts 0 places block low 2048 (omega arith) (omega arith) (omega (arith, all)) (sym (append-nil block)))
    ∙ ap (turned_keys starts) (sym (split_at low 2048 places))

-- in any order
pub any_order : (starts places : List ℕ) → IsPermutation (turned_keys starts places) places
any_order [] places = IsPermutation-refl places
any_order (start ∷ starts) places =
    let block = take 2048 places in
    let rest = drop 2048 places in
    let ahead = turn start block in
    let behind = turned_keys starts rest in
    let turned_back : IsPermutation ahead block = subst (IsPermutation ahead) (take-append-drop start block) (IsPermutation-append_comm (drop start block) (take start block)) in
    subst (IsPermutation (ahead ++ behind)) (take-append-drop 2048 places)
    (IsPermutation-trans (ahead ++ behind) (ahead ++ rest) (block ++ rest)
    (IsPermutation-append_right ahead behind rest (any_order starts rest))
    (IsPermutation-append_left rest ahead block turned_back))

-- what was lent as a whole
pub refilled : (xs ws : List ℕ) (n : ℕ) → length ws ≡ length xs → n ≡ length xs → take n (ws ++ drop (length ws) xs) ≡ ws
refilled xs ws n all is =
    ap (λ rest. take n (ws ++ rest)) (drop_all (length ws) xs (omega (arith, all)))
    ∙ ap (take n) (append-nil ws)
    ∙ take_all n ws (omega (arith, all, is))

-- a part is written over
pub length-over : (low k : ℕ) (places block : List ℕ) → low + k ≤ length places → length block ≡ k → length (put_mid low k places block) ≡ length places
length-over low k places block fits all =
    let pre = take low places in
    let post = drop k (drop low places) in
    omega (arith, length-append pre (block ++ post), length-append block post, length-take-le low places (omega (arith, fits)), length-drop low places, length-drop k (drop low places), fits, all)

-- room is seen
pub room_behind : (starts : List ℕ) (places : SmallVec ℕ) → HasRoomFor (keys_of starts places) 1 → HasRoomBehind starts places
room_behind starts places room =
    let len : length (turned_keys starts places.items) ≡ length places.items = length-turned starts places.items in
    (omega (arith, room, len), omega (arith, room, len))

pub room_told : (starts : List ℕ) (places : SmallVec ℕ) → HasRoomBehind starts places → HasRoomFor (keys_of starts places) 1
room_told starts places room = omega (arith, room.0, room.1, length-turned starts places.items)

-- the key at a place
pub key_in_block : (starts places : List ℕ) (b place at : ℕ) → b < length starts → 2048 * length starts ≤ length places → get_or starts b 0 < 2048 → place < 2048 → at ≡ b * 2048 + place
    → get_or places (b * 2048 + (get_or starts b 0 + place) % 2048) 0 ≡ get_or (turned_keys starts places) at 0
key_in_block starts places b place at within fits first small is =
    let low = b * 2048 in
    let front = take b starts in
    let back = drop (b + 1) starts in
    let start = get_or starts b 0 in
    let pre = take low places in
    let block = take 2048 (drop low places) in
    let post = drop 2048 (drop low places) in
    let before = turned_keys front pre in
    let behind = turned_keys back post in
    let ring = (start + place) % 2048 in
    let ring_within : ring < 2048 = mod-lt (start + place) (omega arith) in
    let fits_low : low + 2048 ≤ length places = omega (arith, within, fits) in
    let front_len : length front ≡ b = length-take-le b starts (omega (arith, within)) in
    let pre_len : length pre ≡ low = length-take-le low places (omega (arith, fits_low)) in
    let block_len : length block ≡ 2048 = length-take-le 2048 (drop low places) (omega (arith, fits_low, length-drop low places)) in
    let blocks : length pre ≡ 2048 * length front = omega (arith, pre_len, front_len) in
    let ring_len : length (turn start block) ≡ 2048 = length-turn start block ∙ block_len in
    let past : low + place - low ≡ place = omega arith in
    sym (get_or-drop low places ring 0)
    ∙ sym (get_or-take 2048 (drop low places) ring 0 ring_within)
    ∙ sym (turned_key block start place block_len first small)
    ∙ sym (get_or_append_left (turn start block) behind 0 place (omega (arith, ring_len, small)))
    ∙ ap (λ n. get_or (turn start block ++ behind) n 0) (sym past)
    ∙ sym (get_or-append_right before (turn start block ++ behind) low (low + place) 0 (length-turned front pre ∙ pre_len) (omega arith))
    ∙ ap (λ ks. get_or ks (low + place) 0) (sym (among_others start front back pre block post blocks block_len))
    ∙ (λ i. get_or (turned_keys (sym (split_starts starts b within) i) (sym (split_at low 2048 places) i)) (sym is i) 0)

pub key_behind : (starts places : List ℕ) (at : ℕ) → 2048 * length starts ≤ at → at < length places → get_or places at 0 ≡ get_or (turned_keys starts places) at 0
key_behind starts places at low high =
    let pre = take at places in
    let post = drop at places in
    let front = turned_keys starts pre in
    let pre_len : length pre ≡ at = length-take-le at places (omega (arith, high)) in
    let whole : pre ++ post ≡ places = take-append-drop at places in
    ap (λ ks. get_or ks at 0) (sym whole)
    ∙ get_or-append_right pre post at at 0 pre_len (omega arith)
    ∙ sym (get_or-append_right front post at at 0 (length-turned starts pre ∙ pre_len) (omega arith))
    ∙ ap (λ ks. get_or ks at 0) (sym (behind_blocks starts pre post (omega (arith, low, pre_len))) ∙ ap (turned_keys starts) whole)

-- what goes into the blocks and out of them goes behind them
pub put_behind : (starts places old_starts old_places : List ℕ) (place key last : ℕ) → 2048 * length starts ≤ length places
    → insert (turned_keys starts places) (2048 * length starts) last ≡ insert (turned_keys old_starts old_places) place key
    → turned_keys starts (insert places (length starts * 2048) last) ≡ insert (turned_keys old_starts old_places) place key
put_behind starts places old_starts old_places place key last fits put =
    let low : length starts * 2048 ≡ 2048 * length starts = omega arith in
    ap (λ n. turned_keys starts (insert places n last)) low
    ∙ insert_behind starts places (2048 * length starts) last (omega arith) fits
    ∙ put

pub taken_out : (starts places old_starts old_places : List ℕ) (place low first taken : ℕ) → place ≤ length places → low ≡ 2048 * length old_starts → low < length old_places → first ≡ get_or old_places low 0
    → insert (turned_keys starts places) place taken ≡ insert (turned_keys old_starts (remove old_places low)) (2048 * length old_starts) first
    → turned_keys starts places ≡ remove (turned_keys old_starts old_places) place
taken_out starts places old_starts old_places place low first taken within is behind was same =
    let rest = remove old_places low in
    let keys = turned_keys starts places in
    let rest_len : length rest + 1 ≡ length old_places = length-remove old_places low behind in
    sym (put_and_taken keys place taken (omega (arith, within, length-turned starts places)))
    ∙ ap (λ ks. remove ks place) (same
    ∙ sym (insert_behind old_starts rest (2048 * length old_starts) first (omega arith) (omega (arith, is, behind, rest_len)))
    ∙ (λ i. turned_keys old_starts (insert rest (sym is i) (was i)))
    ∙ ap (turned_keys old_starts) (taken_and_put old_places low behind))
