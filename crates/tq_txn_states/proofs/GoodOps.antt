-- An operation put at its place, and what a list of operations keeps.
use Rattle.std.proofs.Common.{◌≡◌, ℕ, Bool, true, false, not, ◌||◌, ◌&&◌, cond, List, [], ◌∷◌, refl, sym, ap, ◌∙◌, subst}
use Rattle.std.proofs.lemmas.Bool.{and_parts, and_from, or_parts, or_left, false≢true}
use Rattle.std.specs.{Cmp.Lexicographic.{nat_list_cmp_total, nat_list_eq_equiv}, Ordering.{is_lt, ordering_reverse}}
use Rattle.std.specs.{FinMap.{slice_cmp-IsAntisymmetric, nat_cmp-IsAntisymmetric}, declared.cmp.Ordering.Ordering}
use Rattle.std.specs.declared.cmp.Ordering.TheVariants.{Less, Equal, Greater}
use Rattle.tq_store.specs.{Copies.name_cmp, Names.same_name}
use Rattle.tq_evidence.specs.declared.{grant.Grant.Grant, op.Op.Op}
use Rattle.tq_evidence.specs.Evidence.{is_write, servers_of, has_server, stands_before, ops_rise, has_quorum, has_exclusive_grants, has_version, writes_file}
use Rattle.tq_txn_states.specs.Open.{with_numbers, OpenView, IsOpen, IsGoodOp, is_written, is_used, with_op, with_content, txn_after_op, txn_after_rewrite}
use Rattle.tq_txn_states.proofs.Searched.{has-map, has-with_numbers}
use Rattle.tq_txn_states.proofs.Puts.{list_all-put, list_any-put, list_all-changed, list_any-changed}

-- the list has the operation's file, a write of it where the operation is one
abbrev is_taken : Bool → List Op → List ℕ → Bool
is_taken w ops file = cond w (is_written ops file) (is_used ops file)

abbrev clashes : Bool → Op → List ℕ → Bool
clashes w op file = cond w (writes_file file op) (same_name op.file file)

fresh_parts : (w : Bool) (first : Op) (rest : List Op) (file : List ℕ) → is_taken w (first ∷ rest) file ≡ false → (clashes w first file ≡ false) × (is_taken w rest file ≡ false)
fresh_parts true first rest file fresh = or_parts (writes_file file first) (is_written rest file) fresh
fresh_parts false first rest file fresh = or_parts (same_name first.file file) (is_used rest file) fresh

-- where two names are equal, the first stands before the second as a read before a write
read_before : (w v : Bool) (same : Bool) → same ≡ true → cond w (v && same) same ≡ false → (not v && w) ≡ true
read_before true true same is fresh = absurd (false≢true (sym fresh ∙ is))
read_before true false same is fresh = refl
read_before false v same is fresh = absurd (false≢true (sym fresh ∙ is))

same_file : (a b : List ℕ) → name_cmp a b ≡ Equal → same_name b a ≡ true
same_file a b is =
    let same = slice_cmp-IsAntisymmetric nat_cmp-IsAntisymmetric a b is in
    let P : List ℕ → Type 0 = λ x. same_name x a ≡ true in
    subst P same (nat_list_eq_equiv.refl a)

-- an operation that is not later than one of the list stands after it
after_first : (op first : Op) (o : Ordering) → name_cmp op.file first.file ≡ o → is_lt o ≡ false → clashes (is_write op) first op.file ≡ false → stands_before first op ≡ true
after_first op first Less is later fresh = absurd (false≢true (sym later))
after_first op first Greater is later fresh =
    let back : name_cmp first.file op.file ≡ Less = nat_list_cmp_total.antisymm first.file op.file ∙ ap ordering_reverse is in
    rw back refl
after_first op first Equal is later fresh =
    let back : name_cmp first.file op.file ≡ Equal = nat_list_cmp_total.antisymm first.file op.file ∙ ap ordering_reverse is in
    rw back (read_before (is_write op) (is_write first) (same_name first.file op.file) (same_file op.file first.file is) fresh)

rises-after : (before op : Op) (ops : List Op) → stands_before before op ≡ true → is_taken (is_write op) ops op.file ≡ false → ops_rise (before ∷ ops) ≡ true → ops_rise (before ∷ with_op ops op) ≡ true
rises-after before op [] here fresh up = and_from (stands_before before op) true here refl
rises-after before op (first ∷ rest) here fresh up =
    let parts = and_parts (stands_before before first) (ops_rise (first ∷ rest)) up in
    let new = fresh_parts (is_write op) first rest op.file fresh in
    elim (is_lt (name_cmp op.file first.file)) as (λ b. is_lt (name_cmp op.file first.file) ≡ b → ops_rise (before ∷ cond b (op ∷ first ∷ rest) (first ∷ with_op rest op)) ≡ true) [
      | true ↦ λ is. and_from (stands_before before op) (stands_before op first && ops_rise (first ∷ rest)) here (and_from (stands_before op first) (ops_rise (first ∷ rest)) (or_left (is_lt (name_cmp op.file first.file)) _ is) parts.1)
      | false ↦ λ is. and_from (stands_before before first) (ops_rise (first ∷ with_op rest op)) parts.0 (rises-after first op rest (after_first op first (name_cmp op.file first.file) refl is new.0) new.1 parts.1)
    ] refl

pub ops_rise-with_op : (ops : List Op) (op : Op) → is_taken (is_write op) ops op.file ≡ false → ops_rise ops ≡ true → ops_rise (with_op ops op) ≡ true
ops_rise-with_op [] op fresh up = refl
ops_rise-with_op (first ∷ rest) op fresh up =
    let new = fresh_parts (is_write op) first rest op.file fresh in
    elim (is_lt (name_cmp op.file first.file)) as (λ b. is_lt (name_cmp op.file first.file) ≡ b → ops_rise (cond b (op ∷ first ∷ rest) (first ∷ with_op rest op)) ≡ true) [
      | true ↦ λ is. and_from (stands_before op first) (ops_rise (first ∷ rest)) (or_left (is_lt (name_cmp op.file first.file)) _ is) up
      | false ↦ λ is. rises-after first op rest (after_first op first (name_cmp op.file first.file) refl is new.0) new.1 up
    ] refl

-- a good operation more
pub IsOpen-taken : (old : OpenView) (op : Op) → IsGoodOp old op → IsOpen old → IsOpen (txn_after_op old op)
IsOpen-taken old op good all =
    record {
      rise = ops_rise-with_op old.ops op good.fresh all.rise;
      quorums = list_all-put (λ other. is_lt (name_cmp op.file other.file)) (has_quorum old.levels) op old.ops good.quorum all.quorums;
      exclusive = list_all-put (λ other. is_lt (name_cmp op.file other.file)) has_exclusive_grants op old.ops good.exclusive all.exclusive;
      versions = list_all-put (λ other. is_lt (name_cmp op.file other.file)) has_version op old.ops good.version all.versions;
      voters = λ server.
          has-with_numbers old.voters (servers_of op) server
          ∙ (λ i. has-map (λ (grant : Grant). grant.server) op.grants server i || all.voters server i)
          ∙ sym (list_any-put (λ other. is_lt (name_cmp op.file other.file)) (λ o. has_server o server) op old.ops);
    }

-- the same, where the parts are known by equations
pub IsOpen-with : (old : OpenView) (op : Op) (ops : List Op) (voters touched : List ℕ) → ops ≡ with_op old.ops op → voters ≡ with_numbers old.voters (servers_of op) → IsGoodOp old op → IsOpen old → IsOpen (record old { ops = ops; voters = voters; touched = touched })
IsOpen-with old op ops voters touched ops_are voters_are good all =
    let is = IsOpen-taken old op good all in
    rw (ops_are, voters_are) record { rise = is.rise; quorums = is.quorums; exclusive = is.exclusive; versions = is.versions; voters = is.voters }

module _ (file content : List ℕ) where
  ops_rise-with_content : (ops : List Op) → ops_rise (with_content file content ops) ≡ ops_rise ops
  ops_rise-with_content [] = refl
  ops_rise-with_content (first ∷ []) =
      elim (writes_file file first) as (λ b. ops_rise (cond b (record first { content = content } ∷ []) (first ∷ [])) ≡ true) [
        | true ↦ refl
        | false ↦ refl
      ]
  ops_rise-with_content (first ∷ second ∷ rest) =
      elim (writes_file file first) as (λ b. ops_rise (cond b (record first { content = content } ∷ second ∷ rest) (first ∷ with_content file content (second ∷ rest))) ≡ (stands_before first second && ops_rise (second ∷ rest))) [
        | true ↦ refl
        | false ↦ elim (writes_file file second) as (λ b. ops_rise (cond b (record second { content = content } ∷ rest) (second ∷ with_content file content rest)) ≡ ops_rise (second ∷ rest) → ops_rise (first ∷ cond b (record second { content = content } ∷ rest) (second ∷ with_content file content rest)) ≡ (stands_before first second && ops_rise (second ∷ rest))) [
          | true ↦ λ same. ap (λ b. stands_before first second && b) same
          | false ↦ λ same. ap (λ b. stands_before first second && b) same
        ] (ops_rise-with_content (second ∷ rest))
      ]

  kept : (w : Bool) (x y z : Bool) → w ≡ true → cond w x y ≡ true → cond w x z ≡ true
  kept true x y z is h = h
  kept false x y z is h = absurd (false≢true is)

  -- a transaction that writes other content
  pub IsOpen-rewritten : (old : OpenView) → IsOpen old → IsOpen (txn_after_rewrite old file content)
  IsOpen-rewritten old all =
      let change : Op → Op = λ op. record op { content = content } in
      record {
        rise = ops_rise-with_content old.ops ∙ all.rise;
        quorums = list_all-changed (writes_file file) change (has_quorum old.levels) old.ops (λ x is was. was) all.quorums;
        exclusive = list_all-changed (writes_file file) change has_exclusive_grants old.ops (λ x is was. was) all.exclusive;
        versions = list_all-changed (writes_file file) change has_version old.ops (λ x is was. kept (is_write x) _ _ _ (and_parts (is_write x) (same_name x.file file) is).0 was) all.versions;
        voters = λ server. all.voters server ∙ sym (list_any-changed (writes_file file) change (λ o. has_server o server) old.ops (λ x. refl));
      }
