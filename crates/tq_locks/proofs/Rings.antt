-- A key that goes down a list, one place after the other. What happens in one block.
use Rattle.std.proofs.Common.{◌≡◌, ◌<◌, ◌++◌, ℕ, zero, suc, List, [], ◌∷◌, length, slice_index_or, slice_set, refl, ap, arith, ◌+◌, ◌-◌, ◌%◌, take, drop, get_or, sym, ◌∙◌, inl, inr}
use Rattle.std.proofs.lemmas.List.{append_assoc, append-nil, length-append, length-drop, length-take, length-take-le, take_at, drop_at, set_at, take_all, drop_all, take-append-drop, take_more, drop_more, take_more_set, drop-set-lt, get_or-drop, get_or-take, get_or_append_left, get_or-append_right, get_or-set_same, length-set, set-set, set-get_or}
use Rattle.std.{proofs.{lemmas.Bool.cases_lt, Math.Nat.{mod-eq_of_lt, mod-lt}}, specs.List.{insert, swap, copy_within}}
use Rattle.tq_locks.specs.Keys.{turn}

pub longer : (front : List ℕ) (key : ℕ) → length (front ++ key ∷ []) ≡ suc (length front)
longer [] key = refl
longer (x ∷ front) key = ap suc (longer front key)

lower : (front : List ℕ) (p key d : ℕ) → p < length front
    → slice_set (slice_set (insert front (suc p) key) p (slice_index_or (insert front (suc p) key) (suc p) d)) (suc p) (slice_index_or (insert front (suc p) key) p d) ≡ insert front p key
lower [] p key d less = absurd (omega (arith, less))
lower (x ∷ front) zero key d less = refl
lower (x ∷ front) (suc p) key d less = ap (λ keys. x ∷ keys) (lower front p key d (omega (arith, less)))

-- one place down
pub swapped : (front : List ℕ) (p key : ℕ) → p < length front → swap (insert front (suc p) key) p (suc p) ≡ insert front p key
swapped [] p key less = absurd (omega (arith, less))
swapped (x ∷ front) p key less = lower (x ∷ front) p key x less

-- ---- rings

-- the last key goes, and those from a place on move up
pub opened : (keys : List ℕ) (place end key : ℕ) → place < length keys → end ≡ length keys - 1
    → slice_set (copy_within keys place end (place + 1)) place key ++ get_or keys end 0 ∷ [] ≡ insert keys place key
opened keys place end key within is =
    let pre = take place keys in
    let rest = drop place keys in
    let old = get_or keys place 0 in
    let moved = take (end - place) rest in
    let size : length rest ≡ length keys - place = length-drop place keys in
    let last_at : place + (end - place) ≡ end = omega (arith, within, is) in
    let written : slice_set (copy_within keys place end (place + 1)) place key ≡ pre ++ key ∷ moved =
    ap (λ ks. slice_set (take (place + 1) keys ++ moved ++ ks) place key) (drop_all (place + 1 + (end - place)) keys (omega (arith, within, is)))
    ∙ ap (λ ks. slice_set ks place key) (append-nil (take (place + 1) keys ++ moved))
    ∙ ap (λ ks. slice_set (ks ++ moved) place key) (take_more keys place 0 within)
    ∙ ap (λ ks. slice_set ks place key) (append_assoc pre (old ∷ []) moved)
    ∙ set_at pre old moved key place (length-take-le place keys (omega (arith, within))) in
    let whole : moved ++ get_or keys end 0 ∷ [] ≡ rest =
    ap (λ n. moved ++ get_or keys n 0 ∷ []) (sym last_at)
    ∙ ap (λ k. moved ++ k ∷ []) (sym (get_or-drop place keys (end - place) 0))
    ∙ sym (take_more rest (end - place) 0 (omega (arith, within, is, size)))
    ∙ take_all (end - place + 1) rest (omega (arith, within, is, size)) in
    ap (λ ks. ks ++ get_or keys end 0 ∷ []) written
    ∙ append_assoc pre (key ∷ moved) (get_or keys end 0 ∷ [])
    ∙ ap (λ ks. pre ++ key ∷ ks) whole

-- the keys behind a place move down, and a key comes behind them
pub closed : (keys : List ℕ) (place end key : ℕ) → place < length keys → end ≡ length keys - 1
    → insert (slice_set (copy_within keys (place + 1) (length keys) place) end key) place (get_or keys place 0) ≡ keys ++ key ∷ []
closed keys place end key within is =
    let pre = take place keys in
    let rest = drop (place + 1) keys in
    let old = get_or keys place 0 in
    let last = get_or keys end 0 in
    let n = length keys - (place + 1) in
    let size : length rest ≡ n = length-drop (place + 1) keys in
    let pre_len : length pre ≡ place = length-take-le place keys (omega (arith, within)) in
    let last_at : place + n ≡ end = omega (arith, within, is) in
    let after : end + 1 ≡ length keys = omega (arith, within, is) in
    let tail : drop (place + n) keys ≡ last ∷ [] =
    ap (λ m. drop m keys) last_at
    ∙ drop_more keys end 0 (omega (arith, after))
    ∙ ap (λ ks. last ∷ ks) (drop_all (end + 1) keys (omega (arith, after))) in
    let written : slice_set (copy_within keys (place + 1) (length keys) place) end key ≡ pre ++ (rest ++ key ∷ []) =
    (λ i. slice_set (pre ++ take_all n rest (omega (arith, size)) i ++ tail i) end key)
    ∙ set_at (pre ++ rest) last [] key end (omega (arith, length-append pre rest, pre_len, size, last_at))
    ∙ append_assoc pre rest (key ∷ []) in
    ap (λ ks. insert ks place old) written
    ∙ (λ i. take_at pre (rest ++ key ∷ []) place pre_len i ++ old ∷ drop_at pre (rest ++ key ∷ []) place pre_len i)
    ∙ sym (append_assoc pre (old ∷ rest) (key ∷ []))
    ∙ ap (λ ks. (pre ++ ks) ++ key ∷ []) (sym (drop_more keys place 0 within))
    ∙ ap (λ ks. ks ++ key ∷ []) (take-append-drop place keys)

pub length-turn : (start : ℕ) (block : List ℕ) → length (turn start block) ≡ length block
length-turn start block = omega (arith, length-append (drop start block) (take start block), length-drop start block, length-take start block)

-- a block that begins at its front, or behind its end
pub not_turned : (block : List ℕ) → turn 0 block ≡ block
not_turned block = append-nil block

turned_over : (block : List ℕ) (start : ℕ) → length block ≡ start → turn start block ≡ turn 0 block
turned_over block start is =
    (λ i. drop_all start block (omega (arith, is)) i ++ take_all start block (omega (arith, is)) i)
    ∙ sym (not_turned block)

one_on : (block : List ℕ) (start key : ℕ) → start < length block
    → turn start block ++ key ∷ [] ≡ get_or block start 0 ∷ turn (start + 1) (slice_set block start key)
one_on block start key within =
    let rest = drop (start + 1) block in
    let front = take start block in
    (λ i. (drop_more block start 0 within i ++ front) ++ key ∷ [])
    ∙ append_assoc (get_or block start 0 ∷ rest) front (key ∷ [])
    ∙ (λ i. get_or block start 0 ∷ (sym (drop-set-lt (start + 1) block start key (omega arith)) i ++ sym (take_more_set block start key within) i))

-- a key goes behind the others of a ring, in the place of the first
pub behind_others : (block : List ℕ) (start next key : ℕ) → start < length block → length block ≡ 2048 → next ≡ (start + 1) % 2048
    → turn start block ++ key ∷ [] ≡ get_or block start 0 ∷ turn next (slice_set block start key)
behind_others block start next key within all is =
    let keys = slice_set block start key in
    let old = get_or block start 0 in
    elim (cases_lt (start + 1) 2048) [
      | inl below ↦ one_on block start key within ∙ ap (λ n. old ∷ turn n keys) (sym (is ∙ mod-eq_of_lt below))
      | inr above ↦
          let end : start + 1 ≡ 2048 = omega (arith, above, within, all) in
          one_on block start key within
          ∙ ap (λ ks. old ∷ ks) (turned_over keys (start + 1) (length-set block start key ∙ all ∙ sym end))
          ∙ ap (λ n. old ∷ turn n keys) (sym (is ∙ ap (λ n. n % 2048) end))
    ]

-- a key goes before the others of a ring, in the place of the last
pub before_others : (block : List ℕ) (start before key : ℕ) → start < length block → length block ≡ 2048 → before ≡ (start + 2048 - 1) % 2048
    → turn before (slice_set block before key) ++ get_or block before 0 ∷ [] ≡ key ∷ turn start block
before_others block start before key within all is =
    let last = get_or block before 0 in
    let keys = slice_set block before key in
    let small : (start + 2048 - 1) % 2048 < 2048 = mod-lt (start + 2048 - 1) (omega arith) in
    let below : before < length block = omega (arith, is, all, small) in
    let size : length keys ≡ length block = length-set block before key in
    behind_others keys before start last (omega (arith, size, below)) (size ∙ all) (omega (arith, is, within, all))
    ∙ (λ i. get_or-set_same block before key 0 below i ∷ turn start ((set-set block before key last ∙ set-get_or block before 0) i))

-- the key at a place in a ring
pub turned_key : (block : List ℕ) (start place : ℕ) → length block ≡ 2048 → start < 2048 → place < 2048 → get_or (turn start block) place 0 ≡ get_or block ((start + place) % 2048) 0
turned_key block start place all first within =
    let behind = drop start block in
    let front = take start block in
    let len : length behind ≡ 2048 - start = length-drop start block ∙ ap (λ n. n - start) all in
    elim (cases_lt (start + place) 2048) [
      | inl below ↦
          get_or_append_left behind front 0 place (omega (arith, below, len))
          ∙ get_or-drop start block place 0
          ∙ ap (λ n. get_or block n 0) (sym (mod-eq_of_lt below))
      | inr above ↦
          let rest : place - (2048 - start) ≡ (start + place) % 2048 = omega (arith, above, first, within) in
          get_or-append_right behind front (2048 - start) place 0 len (omega (arith, above, first))
          ∙ get_or-take start block (place - (2048 - start)) 0 (omega (arith, above, first, within))
          ∙ ap (λ n. get_or block n 0) rest
    ]

-- a list in three parts
pub split_at : (low k : ℕ) (places : List ℕ) → places ≡ take low places ++ (take k (drop low places) ++ drop k (drop low places))
split_at low k places = sym (take-append-drop low places) ∙ ap (λ rest. take low places ++ rest) (sym (take-append-drop k (drop low places)))

turned_at : (front back : List ℕ) (n : ℕ) → length front ≡ n → turn n (front ++ back) ≡ back ++ front
turned_at front back n fits = λ i. drop_at front back n fits i ++ take_at front back n fits i

inserted_at : (front back : List ℕ) (n key : ℕ) → length front ≡ n → insert (front ++ back) n key ≡ front ++ key ∷ back
inserted_at front back n key fits = λ i. take_at front back n fits i ++ key ∷ drop_at front back n fits i

-- a key comes into a ring that begins one earlier then, where its last was
around : (front part rest : List ℕ) (start next place last key : ℕ) → length front ≡ start → next ≡ start + 1 → length part ≡ place
    → turn start (front ++ ((part ++ key ∷ []) ++ rest)) ++ last ∷ [] ≡ insert (turn next (front ++ (last ∷ part ++ rest))) place key
around front part rest start next place last key fits is size =
    let ends = front ++ last ∷ [] in
    ap (λ ks. ks ++ last ∷ []) (turned_at front ((part ++ key ∷ []) ++ rest) start fits)
    ∙ append_assoc ((part ++ key ∷ []) ++ rest) front (last ∷ [])
    ∙ append_assoc (part ++ key ∷ []) rest ends
    ∙ append_assoc part (key ∷ []) (rest ++ ends)
    ∙ sym (inserted_at part (rest ++ ends) place key size)
    ∙ ap (λ ks. insert ks place key) (sym (append_assoc part rest ends))
    ∙ ap (λ ks. insert ks place key) (sym (turned_at ends (part ++ rest) next (omega (arith, length-append front (last ∷ []), fits, is))))
    ∙ ap (λ ks. insert (turn next ks) place key) (append_assoc front (last ∷ []) (part ++ rest))

pub came_before : (front old rest new : List ℕ) (start next place last key : ℕ) → length front ≡ start → next ≡ start + 1 → length old ≡ place + 1
    → last ∷ new ≡ old ++ key ∷ []
    → turn start (front ++ (new ++ rest)) ++ last ∷ [] ≡ insert (turn next (front ++ (old ++ rest))) place key
came_before front [] rest new start next place last key fits is size same = absurd (omega (arith, size))
came_before front (first ∷ part) rest new start next place last key fits is size same =
    let was : last ≡ first = ap (λ ks. get_or ks 0 0) same in
    let others : new ≡ part ++ key ∷ [] = ap (λ ks. drop 1 ks) same in
    ap (λ ks. turn start (front ++ (ks ++ rest)) ++ last ∷ []) others
    ∙ around front part rest start next place last key fits is (omega (arith, size))
    ∙ ap (λ k. insert (turn next (front ++ (k ∷ part ++ rest))) place key) was

pub left_before : (front old rest new : List ℕ) (start next place taken key : ℕ) → length front ≡ start → next ≡ start + 1 → length old ≡ place + 1
    → new ++ taken ∷ [] ≡ key ∷ old
    → insert (turn next (front ++ (new ++ rest))) place taken ≡ turn start (front ++ (old ++ rest)) ++ key ∷ []
left_before front old rest [] start next place taken key fits is size same = absurd (omega (arith, size, ap length same))
left_before front old rest (first ∷ part) start next place taken key fits is size same =
    let was : first ≡ key = ap (λ ks. get_or ks 0 0) same in
    let others : part ++ taken ∷ [] ≡ old = ap (λ ks. drop 1 ks) same in
    ap (λ k. insert (turn next (front ++ (k ∷ part ++ rest))) place taken) was
    ∙ sym (around front part rest start next place key taken fits is (omega (arith, size, length-append part (taken ∷ []), ap length others)))
    ∙ ap (λ ks. turn start (front ++ (ks ++ rest)) ++ key ∷ []) others

-- the keys behind a place in a ring whose end is in the midst of the block
behind_end : (front part rest : List ℕ) (start last : ℕ) → length front + length part ≡ start
    → turn start (front ++ (part ++ rest)) ++ last ∷ [] ≡ rest ++ (front ++ (part ++ last ∷ []))
behind_end front part rest start last fits =
    ap (λ ks. turn start ks ++ last ∷ []) (sym (append_assoc front part rest))
    ∙ ap (λ ks. ks ++ last ∷ []) (turned_at (front ++ part) rest start (length-append front part ∙ fits))
    ∙ append_assoc rest (front ++ part) (last ∷ [])
    ∙ ap (λ ks. rest ++ ks) (append_assoc front part (last ∷ []))

within_end : (front part rest : List ℕ) (start place key : ℕ) → length front + length part ≡ start → place ≡ length rest + length front
    → insert (turn start (front ++ (part ++ rest))) place key ≡ rest ++ (front ++ (key ∷ part))
within_end front part rest start place key fits is =
    ap (λ ks. insert (turn start ks) place key) (sym (append_assoc front part rest))
    ∙ ap (λ ks. insert ks place key) (turned_at (front ++ part) rest start (length-append front part ∙ fits))
    ∙ ap (λ ks. insert ks place key) (sym (append_assoc rest front part))
    ∙ inserted_at (rest ++ front) part place key (length-append rest front ∙ sym is)
    ∙ append_assoc rest front (key ∷ part)

pub came_behind : (front old rest new : List ℕ) (start place last key : ℕ) → length front + length old ≡ start → length new ≡ length old → place ≡ length rest + length front
    → new ++ last ∷ [] ≡ key ∷ old
    → turn start (front ++ (new ++ rest)) ++ last ∷ [] ≡ insert (turn start (front ++ (old ++ rest))) place key
came_behind front old rest new start place last key fits size is same =
    behind_end front new rest start last (omega (arith, fits, size))
    ∙ ap (λ ks. rest ++ (front ++ ks)) same
    ∙ sym (within_end front old rest start place key fits is)

pub left_behind : (front old rest new : List ℕ) (start place taken key : ℕ) → length front + length old ≡ start → length new ≡ length old → place ≡ length rest + length front
    → taken ∷ new ≡ old ++ key ∷ []
    → insert (turn start (front ++ (new ++ rest))) place taken ≡ turn start (front ++ (old ++ rest)) ++ key ∷ []
left_behind front old rest new start place taken key fits size is same =
    within_end front new rest start place taken (omega (arith, fits, size)) is
    ∙ ap (λ ks. rest ++ (front ++ ks)) same
    ∙ sym (behind_end front old rest start key fits)
