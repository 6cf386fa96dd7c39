-- What good evidence shows, rule by rule.
use Rattle.std.specs.{Prelude.{◌==◌, ◌&&◌, ◌||◌, nat_le, not}, List.{filter, list_any, list_all}}
use Rattle.std.specs.{Cmp.Lexicographic.pointwise, Ordering.{is_lt, is_gt, is_eq, ordering_reverse}}
use Rattle.std.specs.declared.cmp.{Ordering.Ordering, Ordering.TheVariants.{Less, Equal, Greater}}
use Rattle.std.proofs.Common.{◌≡◌, ℕ, suc, ◌≤◌, ◌+◌, max, Bool, true, false, List, [], ◌∷◌, Option, Some, None, refl, sym, ap, subst, ◌∙◌, ◌⊎◌, inl, inr, arith, fold}
use Rattle.std.proofs.lemmas.Cmp.{upto, tied_itself, nat_list_cmp_total}
use Rattle.std.proofs.lemmas.Bool.{and_parts, eq-eqb, eqb-true, leb-true, cond-true, cond-false, false≢true, true≢false, cases_lt}
use Rattle.tq_shape.specs.Journal.{Has}
use Rattle.tq_shape.proofs.Places.{Has-filter, filter-Has, Has-map, any-Has, Has-any, all-Has, find-Has}
use Rattle.tq_store.specs.{Copies.name_cmp, declared.write.Write.Write as FileWrite, Names.same_name}
use Rattle.tq_store.proofs.Padded.{same_name-is}
use Rattle.tq_coterie.specs.Coterie.{is_quorum}
use Rattle.tq_asks.specs.declared.ask.HeldLock.{HeldLock}
use Rattle.tq_evidence.specs.declared.{grant.Grant.Grant, op.Op.Op, rule.Rule.Rule, vote.Vote.Vote}
use Rattle.tq_evidence.specs.Evidence.{is_write, servers_of, has_server, rises, are_quorums, are_exclusive, covers, are_covered, place_of, put_op, writes_by_file, is_write_of, are_writes_at, have_writes, greatest, stands_before, ops_rise, reads_copy, has_version, have_versions, rule_unless, IsGood}
use Rattle.tq_evidence.proofs.HeldTable.{Has-put, put-Has}
use Rattle.tq_evidence.specs.Evidence as evidence
use Rattle.tq_desk.specs.DeskJournal.{HasTop, IsCovered, IsShown}

-- ---- the rules that hold

failed-none : (holds : Bool) (rule : Rule) (next : Option Rule) → rule_unless holds rule next ≡ None → (holds ≡ true) × (next ≡ None)
failed-none true rule next h = (refl, h)
failed-none false rule next h = cc

record AreKept (levels : ℕ) (ops : List Op) (votes : List Vote) : Type 0 where
  quorums : are_quorums levels ops ≡ true
  covered : are_covered ops votes ≡ true
  writes : have_writes ops votes ≡ true
  versions : have_versions ops ≡ true

all_kept : (levels : ℕ) (ops : List Op) (votes : List Vote) → IsGood levels ops votes → AreKept levels ops votes
all_kept levels ops votes good =
    let a = failed-none (are_quorums levels ops) _ _ good in
    let b = failed-none (are_exclusive ops) _ _ a.1 in
    let c = failed-none (are_covered ops votes) _ _ b.1 in
    let d = failed-none (have_writes ops votes) _ _ c.1 in
    let e = failed-none (have_versions ops) _ _ d.1 in
    record { quorums = a.0; covered = c.0; writes = d.0; versions = e.0 }

-- ---- coverage

is_covering : (file : List ℕ) (grant : Grant) (votes : List Vote) (vote : Vote) → Has votes vote → covers file grant vote ≡ true → (since : ℕ) × IsCovered votes file grant vote since
is_covering file grant votes vote has h =
    let p = and_parts _ _ h in
    let q = and_parts _ _ p.0 in
    let l = any-Has (λ (lock : HeldLock). same_name lock.file file && nat_le lock.since grant.number) vote.held p.1 in
    let r = and_parts (same_name (l.0).file file) (nat_le (l.0).since grant.number) l.2 in (
      (l.0).since,
      record {
        is_there = has;
        at_server = eqb-true vote.server grant.server q.0;
        lock = l.0;
        has_lock = l.1;
        on_file = same_name-is (l.0).file file r.0;
        since_is = refl;
        from = leb-true (l.0).since grant.number r.1;
      },
    )

coverage_of : (ops : List Op) (votes : List Vote) → are_covered ops votes ≡ true → (op : Op) → Has ops op → (grant : Grant) → Has op.grants grant → (vote : Vote) × (since : ℕ) × IsCovered votes op.file grant vote since
coverage_of ops votes h op has grant has_grant =
    let p = and_parts _ _ h in
    let q = all-Has (λ (op : Op). list_all (λ grant. list_any (covers op.file grant) votes) op.grants) ops p.1 op has in
    let r = all-Has (λ (grant : Grant). list_any (covers op.file grant) votes) op.grants q grant has_grant in
    let v = any-Has (covers op.file grant) votes r in
    let c = is_covering op.file grant votes v.0 v.1 v.2 in
    (v.0, c.0, c.1)

-- ---- writes

-- what stands in one of two lists that match item by item has its match in the other
match_left : {A B : Type 0} (E : A → B → Bool) (xs : List A) (ys : List B) (x : A) → pointwise E xs ys ≡ true → Has xs x → (y : B) × Has ys y × (E x y ≡ true)
match_left E [] ys x h has = absurd has
match_left E (a ∷ xs) [] x h has = absurd (false≢true h)
match_left E (a ∷ xs) (b ∷ ys) x h (inl e) = (b, inl refl, ap (λ (z : _). E z b) (sym e) ∙ (and_parts (E a b) (pointwise E xs ys) h).0)
match_left E (a ∷ xs) (b ∷ ys) x h (inr k) = let r = match_left E xs ys x (and_parts (E a b) (pointwise E xs ys) h).1 k in (r.0, inr r.1, r.2)

match_right : {A B : Type 0} (E : A → B → Bool) (xs : List A) (ys : List B) (y : B) → pointwise E xs ys ≡ true → Has ys y → (x : A) × Has xs x × (E x y ≡ true)
match_right E xs [] y h has = absurd has
match_right E [] (b ∷ ys) y h has = absurd (false≢true h)
match_right E (a ∷ xs) (b ∷ ys) y h (inl e) = (a, inl refl, ap (E a) (sym e) ∙ (and_parts (E a b) (pointwise E xs ys) h).0)
match_right E (a ∷ xs) (b ∷ ys) y h (inr k) = let r = match_right E xs ys y (and_parts (E a b) (pointwise E xs ys) h).1 k in (r.0, inr r.1, r.2)

written_by : (write : FileWrite) (op : Op) → is_write_of write op ≡ true → write ≡ record { file = op.file; version = op.version; content = op.content }
written_by write op h =
    let p = and_parts _ _ h in
    let q = and_parts _ _ p.0 in
    let f = same_name-is write.file op.file q.0 in
    let v = eqb-true write.version op.version q.1 in
    let c = same_name-is write.content op.content p.1 in
    λ i. record { file = f i; version = v i; content = c i }

matched : (ops : List Op) (votes : List Vote) → have_writes ops votes ≡ true → (vote : Vote) → Has votes vote → are_writes_at vote.server vote.writes (writes_by_file ops) ≡ true
matched ops votes h vote has = all-Has (λ (vote : Vote). are_writes_at vote.server vote.writes (writes_by_file ops)) votes h vote has

is_op : (ops : List Op) (votes : List Vote) → have_writes ops votes ≡ true → (vote : Vote) → Has votes vote → (write : FileWrite) → Has vote.writes write
    → (op : Op) × Has ops op × (is_write op ≡ true) × (write ≡ record { file = op.file; version = op.version; content = op.content })
is_op ops votes h vote has write has_write =
    let at = λ (op : Op). has_server op vote.server in
    let m = match_left is_write_of vote.writes (filter at (writes_by_file ops)) write (matched ops votes h vote has) has_write in
    let f = Has-filter at (writes_by_file ops) m.0 m.1 in
    let g = Has-filter is_write ops m.0 (from_none (Has-put (filter is_write ops) [] m.0 f.0)) in
    (m.0, g.0, g.1, written_by write m.0 m.2)
  where
    from_none : {X : Type 0} → ⊥ ⊎ X → X
    from_none (inl none) = absurd none
    from_none (inr x) = x

has_server-of : (op : Op) (server : ℕ) → Has (servers_of op) server → has_server op server ≡ true
has_server-of op server h =
    let g = Has-map (λ (grant : Grant). grant.server) op.grants server h in
    Has-any (λ (grant : Grant). grant.server == server) op.grants g.0 g.1 (eq-eqb (g.0).server server g.2)

is_in_vote : (ops : List Op) (votes : List Vote) → have_writes ops votes ≡ true → (vote : Vote) → Has votes vote → (op : Op) → Has ops op → is_write op ≡ true → Has (servers_of op) vote.server
    → Has vote.writes (record { file = op.file; version = op.version; content = op.content })
is_in_vote ops votes h vote has op has_op writes server =
    let at = λ (op : Op). has_server op vote.server in
    let put = put-Has (filter is_write ops) [] op (inr (filter-Has is_write ops op has_op writes)) in
    let m = match_right is_write_of vote.writes (filter at (writes_by_file ops)) op (matched ops votes h vote has)
    (filter-Has at (writes_by_file ops) op put (has_server-of op vote.server server)) in
    subst (λ (w : FileWrite). Has vote.writes w) (written_by m.0 op m.2) m.1

-- ---- versions

most_of : ℕ → List Grant → ℕ
most_of most grants = fold (λ (most : ℕ) (grant : Grant). max most grant.version) most grants

most-start : (grants : List Grant) (most : ℕ) → most ≤ most_of most grants
unfolding most_of
most-start [] most = omega arith
most-start (g ∷ grants) most = let r = most-start grants (max most g.version) in omega arith

most-each : (grants : List Grant) (most : ℕ) (g : Grant) → Has grants g → g.version ≤ most_of most grants
unfolding most_of
most-each [] most g h = absurd h
most-each (x ∷ grants) most g (inl e) = let r = most-start grants (max most x.version) in let v = ap (λ (y : Grant). y.version) e in omega arith
most-each (x ∷ grants) most g (inr h) = most-each grants (max most x.version) g h

most-some : (grants : List Grant) (most : ℕ) → (most_of most grants ≤ most) ⊎ ((g : Grant) × Has grants g × (most_of most grants ≡ g.version))
unfolding most_of
most-some [] most = inl (omega arith)
most-some (x ∷ grants) most =
    elim (most-some grants (max most x.version)) [
      | inl l ↦
          elim (cases_lt most x.version) [
            | inl less ↦ let r = most-start grants (max most x.version) in inr (x, inl refl, omega arith)
            | inr more ↦ inl (omega arith)
          ]
      | inr o ↦ inr (o.0, inr o.1, o.2)
    ]

greatest-most : (grants : List Grant) → greatest grants ≡ most_of 0 grants
unfolding most_of
greatest-most grants = refl

top_of : (op : Op) (grant : Grant) → Has op.grants grant → (newest : Grant) × HasTop op newest
top_of op grant has =
    elim (most-some op.grants 0) [
      | inl l ↦ (grant, record { is_there = has; bounds = λ g h. let e = most-each op.grants 0 g h in omega arith })
      | inr o ↦ (o.0, record { is_there = o.1; bounds = λ g h. let e = most-each op.grants 0 g h in let is = o.2 in omega arith })
    ]

top-greatest : (op : Op) (newest : Grant) → HasTop op newest → newest.version ≡ greatest op.grants
top-greatest op newest top =
    let low = most-each op.grants 0 newest top.is_there in
    let is = greatest-most op.grants in
    elim (most-some op.grants 0) [
      | inl l ↦ omega arith
      | inr o ↦ let b = top.bounds o.0 o.1 in let e = o.2 in omega arith
    ]

write_version_of : (op : Op) → has_version op ≡ true → is_write op ≡ true → (newest : Grant) → HasTop op newest → op.version ≡ suc newest.version
write_version_of op h w newest top =
    let e = eqb-true op.version (greatest op.grants + 1) (sym (cond-true (is_write op) (op.version == greatest op.grants + 1) (reads_copy op (evidence.newest op.grants)) w) ∙ h) in
    let t = top-greatest op newest top in
    omega arith

read_from : (op : Op) (o : Option Grant) → evidence.newest op.grants ≡ o → reads_copy op o ≡ true → (newest : Grant) × HasTop op newest × (op.version ≡ newest.version) × (op.content ≡ newest.content)
read_from op None e h = absurd (false≢true h)
read_from op (Some g) e h =
    let f = find-Has (λ (grant : Grant). grant.version == greatest op.grants) op.grants g e in
    let v = eqb-true g.version (greatest op.grants) f.1 in
    let is = greatest-most op.grants in
    let p = and_parts (op.version == g.version) (same_name op.content g.content) h in
    (g, record { is_there = f.0; bounds = λ x has. let m = most-each op.grants 0 x has in omega arith }, eqb-true op.version g.version p.0, same_name-is op.content g.content p.1)

read_copy_of : (op : Op) → has_version op ≡ true → is_write op ≡ false → (newest : Grant) × HasTop op newest × (op.version ≡ newest.version) × (op.content ≡ newest.content)
read_copy_of op h w =
    read_from op (evidence.newest op.grants) refl
    (sym (cond-false (is_write op) (op.version == greatest op.grants + 1) (reads_copy op (evidence.newest op.grants)) w) ∙ h)

-- ---- one write of a file at most

not_after : (a b : Op) → stands_before a b ≡ true → is_gt (name_cmp a.file b.file) ≡ false
not_after a b h = by (name_cmp a.file b.file) h
  where
    by : (r : Ordering) → (is_lt r || (is_eq r && not (is_write a) && is_write b)) ≡ true → is_gt r ≡ false
    by Less h = refl
    by Equal h = refl
    by Greater h = absurd (false≢true h)

later : (x : Op) (ops : List Op) → ops_rise (x ∷ ops) ≡ true → (z : Op) → Has ops z → is_gt (name_cmp x.file z.file) ≡ false
later x [] r z h = absurd h
later x (y ∷ ops) r z (inl e) = subst (λ (o : Op). is_gt (name_cmp x.file o.file) ≡ false) e (not_after x y (and_parts _ _ r).0)
later x (y ∷ ops) r z (inr h) = upto nat_list_cmp_total x.file y.file z.file (not_after x y (and_parts _ _ r).0) (later y ops (and_parts _ _ r).1 z h)

first_reads : (x y : Op) → stands_before x y ≡ true → is_gt (name_cmp y.file x.file) ≡ false → is_write x ≡ true → ⊥
first_reads x y h back w = by (name_cmp x.file y.file) (name_cmp y.file x.file) (nat_list_cmp_total.antisymm x.file y.file) (is_write x) w h back
  where
    by : (r q : Ordering) → r ≡ ordering_reverse q → (b : Bool) → b ≡ true → (is_lt r || (is_eq r && not b && is_write y)) ≡ true → is_gt q ≡ false → ⊥
    by Less Less e b t h g = cc
    by Less Equal e b t h g = cc
    by Less Greater e b t h g = true≢false g
    by Equal q e true t h g = false≢true h
    by Equal q e false t h g = false≢true t
    by Greater q e b t h g = false≢true h

apart : (x : Op) (ops : List Op) → ops_rise (x ∷ ops) ≡ true → is_write x ≡ true → (z : Op) → Has ops z → x.file ≡ z.file → ⊥
apart x [] r w z h e = h
apart x (y ∷ ops) r w z h e =
    let p = and_parts _ _ r in
    first_reads x y p.0 (subst (λ (f : List ℕ). is_gt (name_cmp y.file f) ≡ false) (sym e) (reach h (later y ops p.1 z))) w
  where
    reach : (y ≡ z) ⊎ Has ops z → (Has ops z → is_gt (name_cmp y.file z.file) ≡ false) → is_gt (name_cmp y.file z.file) ≡ false
    reach (inl q) ih = subst (λ (o : Op). is_gt (name_cmp y.file o.file) ≡ false) q (ap is_gt (tied_itself nat_list_cmp_total y.file))
    reach (inr k) ih = ih k

rest_rises : (x : Op) (ops : List Op) → ops_rise (x ∷ ops) ≡ true → ops_rise ops ≡ true
rest_rises x [] r = refl
rest_rises x (y ∷ ops) r = (and_parts _ _ r).1

once_of : (ops : List Op) → ops_rise ops ≡ true → (a b : Op) → Has ops a → Has ops b → is_write a ≡ true → is_write b ≡ true → a.file ≡ b.file → a ≡ b
once_of [] r a b ha hb wa wb e = absurd ha
once_of (x ∷ ops) r a b (inl p) (inl q) wa wb e = sym p ∙ q
once_of (x ∷ ops) r a b (inl p) (inr q) wa wb e = absurd (apart x ops r (ap is_write p ∙ wa) b q (ap (λ (o : Op). o.file) p ∙ e))
once_of (x ∷ ops) r a b (inr p) (inl q) wa wb e = absurd (apart x ops r (ap is_write q ∙ wb) a p (ap (λ (o : Op). o.file) q ∙ sym e))
once_of (x ∷ ops) r a b (inr p) (inr q) wa wb e = once_of ops (rest_rises x ops r) a b p q wa wb e

pub shown_by : (levels : ℕ) (ops : List Op) (votes : List Vote) → IsGood levels ops votes → IsShown (is_quorum levels) ops votes
shown_by levels ops votes good =
    let k = all_kept levels ops votes good in
    let v = and_parts (ops_rise ops) (list_all has_version ops) k.versions in
    record {
      members = λ op has. (and_parts (rises (servers_of op)) (is_quorum levels (servers_of op)) (all-Has (λ (op : Op). rises (servers_of op) && is_quorum levels (servers_of op)) ops k.quorums op has)).1;
      coverage = coverage_of ops votes k.covered;
      of_op = is_op ops votes k.writes;
      in_vote = is_in_vote ops votes k.writes;
      top = λ op has grant has_grant. top_of op grant has_grant;
      write_version = λ op has w newest top. write_version_of op (all-Has has_version ops v.1 op has) w newest top;
      read_copy = λ op has w. read_copy_of op (all-Has has_version ops v.1 op has) w;
      once = once_of ops v.0;
    }
