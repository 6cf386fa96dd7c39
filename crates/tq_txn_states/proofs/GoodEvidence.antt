-- Writes that pass the test of being those of some operations are what these write. A transaction with all its votes
-- shows good evidence.
use Rattle.std.proofs.Common.{◌≡◌, ◌==◌, ◌&&◌, ◌||◌, not, cond, ap, true, false, List, [], ◌∷◌, ℕ, map, filter, refl, Bool, ◌++◌, Option, None, fold, sym, ◌∙◌, subst, append_assoc, append-nil}
use Rattle.std.proofs.lemmas.Bool.{and_parts, eqb-true, false≢true, and_from, or_left, or_right, eq-eqb}
use Rattle.std.proofs.lemmas.List.Folds.{list_all-append}
use Rattle.std.specs.{Cmp.Lexicographic.{pointwise, nat_list_cmp_total}, List.{list_all, list_any}}
use Rattle.std.specs.{FinMap.{slice_cmp-IsAntisymmetric, nat_cmp-IsAntisymmetric}, Ordering.{is_lt, is_eq, is_gt}}
use Rattle.std.specs.declared.cmp.{Ordering.Ordering, Ordering.TheVariants.{Less, Equal, Greater}}
use Rattle.tq_store.{specs.{declared.write.Write.Write, Names.same_name, Copies.name_cmp}, proofs.Padded.same_name-is}
use Rattle.tq_evidence.specs.declared.{op.Op.Op, grant.Grant.Grant, rule.Rule.Rule, vote.Vote.Vote}
use Rattle.tq_evidence.specs.Evidence.{is_write_of, are_writes_at, has_server, is_write, covers, is_grant_covered, is_covered, are_grants_covered, are_covered, is_server_of, put_op, writes_by_file, have_writes, stands_before, ops_rise, rule_unless, IsGood}
use Rattle.tq_txn_states.specs.Voting.{write_in, writes_at, writes_in, writes_all_at, VotingView, IsVoting, covers_grant, covers_op, has_vote, has_votes}
use Rattle.tq_txn_states.{specs.Open.IsOpen, proofs.{Searched.has-all, Puts.{insert_before, put-last}}}

write-is : (write : Write) (op : Op) → is_write_of write op ≡ true → write ≡ write_in op
write-is write op is =
    let rest = and_parts (same_name write.file op.file && write.version == op.version) (same_name write.content op.content) is in
    let first = and_parts (same_name write.file op.file) (write.version == op.version) rest.0 in
    let file = same_name-is write.file op.file first.0 in
    let version = eqb-true write.version op.version first.1 in
    let content = same_name-is write.content op.content rest.1 in
    λ i. record { file = file i; version = version i; content = content i }

writes-are : (writes : List Write) (ops : List Op) → pointwise is_write_of writes ops ≡ true → writes ≡ map write_in ops
writes-are [] [] are = refl
writes-are [] (op ∷ ops) are = absurd (false≢true are)
writes-are (write ∷ writes) [] are = absurd (false≢true are)
writes-are (write ∷ writes) (op ∷ ops) are =
    let parts = and_parts (is_write_of write op) (pointwise is_write_of writes ops) are in
    λ i. write-is write op parts.0 i ∷ writes-are writes ops parts.1 i

pub writes_at-are : (server : ℕ) (writes : List Write) (ops : List Op) → are_writes_at server writes (writes_in ops) ≡ true → writes ≡ writes_at ops server
writes_at-are server writes ops are = writes-are writes (filter (λ op. has_server op server) (writes_in ops)) are

-- where all of them are written at the server, the writes there are all writes
pub writes_all : (ops : List Op) (server : ℕ) → writes_all_at ops server ≡ true → writes_at ops server ≡ map write_in (writes_in ops)
writes_all [] server all = refl
writes_all (op ∷ ops) server all =
    let parts = and_parts (not (is_write op) || has_server op server) (writes_all_at ops server) all in
    elim (is_write op) as (λ b. (not b || has_server op server) ≡ true → map write_in (filter (λ o. has_server o server) (cond b (op ∷ writes_in ops) (writes_in ops))) ≡ map write_in (cond b (op ∷ writes_in ops) (writes_in ops))) [
      | true ↦ λ here. rw here (ap (λ ws. write_in op ∷ ws) (writes_all ops server parts.1))
      | false ↦ λ here. writes_all ops server parts.1
    ] parts.0

-- ---- good evidence

-- ---- each grant is covered

all_split : {X : Type 0} (p q : X → Bool) (xs : List X) → list_all (λ x. p x && q x) xs ≡ true → (list_all p xs ≡ true) × (list_all q xs ≡ true)
all_split p q [] all = (refl, refl)
all_split p q (x ∷ xs) all =
    let parts = and_parts (p x && q x) (list_all (λ y. p y && q y) xs) all in
    let here = and_parts (p x) (q x) parts.0 in
    let rest = all_split p q xs parts.1 in
    (and_from (p x) (list_all p xs) here.0 rest.0, and_from (q x) (list_all q xs) here.1 rest.1)

covered_by_one : (votes : List Vote) (file : List ℕ) (grant : Grant) → has_vote votes grant.server ≡ true → list_all (λ vote. covers_grant vote file grant) votes ≡ true → is_grant_covered votes file grant ≡ true
covered_by_one [] file grant there all = absurd (false≢true there)
covered_by_one (vote ∷ votes) file grant there all =
    let parts = and_parts (covers_grant vote file grant) (list_all (λ v. covers_grant v file grant) votes) all in
    elim (vote.server == grant.server) as (λ b. (b || has_vote votes grant.server) ≡ true → (not b || covers file grant vote) ≡ true → (covers file grant vote || is_grant_covered votes file grant) ≡ true) [
      | true ↦ λ _ here. or_left (covers file grant vote) (is_grant_covered votes file grant) here
      | false ↦ λ more _. or_right (covers file grant vote) (is_grant_covered votes file grant) (covered_by_one votes file grant more parts.1)
    ] there parts.0

covered_grants : (votes : List Vote) (file : List ℕ) (grants : List Grant) → ((server : ℕ) → list_any (λ grant. grant.server == server) grants ≡ true → has_vote votes server ≡ true) → list_all (λ vote. list_all (covers_grant vote file) grants) votes ≡ true → list_all (is_grant_covered votes file) grants ≡ true
covered_grants votes file [] there all = refl
covered_grants votes file (grant ∷ grants) there all =
    let parts = all_split (λ (vote : Vote). covers_grant vote file grant) (λ (vote : Vote). list_all (covers_grant vote file) grants) votes all in
    and_from (is_grant_covered votes file grant) (list_all (is_grant_covered votes file) grants)
    (covered_by_one votes file grant (there grant.server (or_left (grant.server == grant.server) _ (eq-eqb grant.server grant.server refl))) parts.0)
    (covered_grants votes file grants (λ server more. there server (or_right (grant.server == server) _ more)) parts.1)

covered_ops : (votes : List Vote) (ops : List Op) → ((server : ℕ) → is_server_of ops server ≡ true → has_vote votes server ≡ true) → list_all (λ vote. list_all (covers_op vote) ops) votes ≡ true → are_grants_covered ops votes ≡ true
covered_ops votes [] there all = refl
covered_ops votes (op ∷ ops) there all =
    let parts = all_split (λ (vote : Vote). covers_op vote op) (λ (vote : Vote). list_all (covers_op vote) ops) votes all in
    and_from (is_covered votes op) (are_grants_covered ops votes)
    (covered_grants votes op.file op.grants (λ server more. there server (or_left (has_server op server) _ more)) parts.0)
    (covered_ops votes ops (λ server more. there server (or_right (has_server op server) _ more)) parts.1)

-- ---- the writes are in order already

-- each operation is of a later file
abbrev are_later : List ℕ → List Op → Bool
are_later file ops = list_all (λ op. is_lt (name_cmp file op.file)) ops

is_less : (o : Ordering) → is_lt o ≡ true → o ≡ Less
is_less Less is = refl
is_less Equal is = absurd (false≢true is)
is_less Greater is = absurd (false≢true is)

below_next : (name a b : List ℕ) (o : Ordering) (w v : Bool) → name_cmp a b ≡ o → is_lt (name_cmp name a) ≡ true → (is_lt o || (is_eq o && not w && v)) ≡ true → is_lt (name_cmp name b) ≡ true
below_next name a b Less w v e less h = let less_name = is_less (name_cmp name a) less in rw (nat_list_cmp_total.trans name a b less_name e) refl
below_next name a b Equal w v e less h = let P : List ℕ → Type 0 = λ c. is_lt (name_cmp name c) ≡ true in subst P (slice_cmp-IsAntisymmetric nat_cmp-IsAntisymmetric a b e) less
below_next name a b Greater w v e less h = absurd (false≢true h)

later : (name : List ℕ) (first : Op) (rest : List Op) → ops_rise (first ∷ rest) ≡ true → is_lt (name_cmp name first.file) ≡ true → are_later name (first ∷ rest) ≡ true
later name first [] up less = and_from (is_lt (name_cmp name first.file)) true less refl
later name first (second ∷ rest) up less =
    let parts = and_parts (stands_before first second) (ops_rise (second ∷ rest)) up in
    and_from (is_lt (name_cmp name first.file)) (are_later name (second ∷ rest)) less
    (later name second rest parts.1 (below_next name first.file second.file (name_cmp first.file second.file) (is_write first) (is_write second) refl less parts.0))

rest_rises : (first : Op) (rest : List Op) → ops_rise (first ∷ rest) ≡ true → ops_rise rest ≡ true
rest_rises first [] up = refl
rest_rises first (second ∷ rest) up = (and_parts (stands_before first second) (ops_rise (second ∷ rest)) up).1

write_before : (o : Ordering) (w v : Bool) → w ≡ true → (is_lt o || (is_eq o && not w && v)) ≡ true → is_lt o ≡ true
write_before Less w v is h = refl
write_before Equal true v is h = absurd (false≢true h)
write_before Equal false v is h = absurd (false≢true is)
write_before Greater w v is h = absurd (false≢true h)

-- after a write come later files
after_write : (first : Op) (rest : List Op) → is_write first ≡ true → ops_rise (first ∷ rest) ≡ true → are_later first.file rest ≡ true
after_write first [] is up = refl
after_write first (second ∷ rest) is up =
    let parts = and_parts (stands_before first second) (ops_rise (second ∷ rest)) up in
    later first.file second rest parts.1 (write_before (name_cmp first.file second.file) (is_write first) (is_write second) is parts.0)

none_later : (file : List ℕ) (done : List Op) → list_all (λ d. is_lt (name_cmp d.file file)) done ≡ true → list_all (λ d. not (is_gt (name_cmp d.file file))) done ≡ true
none_later file [] all = refl
none_later file (d ∷ done) all =
    let parts = and_parts (is_lt (name_cmp d.file file)) (list_all (λ e. is_lt (name_cmp e.file file)) done) all in
    and_from (not (is_gt (name_cmp d.file file))) _ (rw (is_less (name_cmp d.file file) parts.0) refl) (none_later file done parts.1)

sorted : (done ops : List Op) → ops_rise ops ≡ true → list_all (λ d. are_later d.file ops) done ≡ true → fold put_op done (filter is_write ops) ≡ done ++ filter is_write ops
sorted done [] up all = sym (append-nil done)
sorted done (op ∷ ops) up all =
    let rest = rest_rises op ops up in
    let parts = all_split (λ (d : Op). is_lt (name_cmp d.file op.file)) (λ (d : Op). are_later d.file ops) done all in
    elim (is_write op) as (λ b. is_write op ≡ b → fold put_op done (cond b (op ∷ filter is_write ops) (filter is_write ops)) ≡ done ++ cond b (op ∷ filter is_write ops) (filter is_write ops)) [
      | true ↦ λ is.
          let last : put_op done op ≡ done ++ op ∷ [] = insert_before (λ (o : Op). is_gt (name_cmp o.file op.file)) op done ∙ put-last (λ (o : Op). is_gt (name_cmp o.file op.file)) op done (none_later op.file done parts.0) in
          ap (λ d. fold put_op d (filter is_write ops)) last
          ∙ sorted (done ++ op ∷ []) ops rest (list_all-append (λ (d : Op). are_later d.file ops) done (op ∷ []) ∙ and_from _ _ parts.1 (and_from _ true (after_write op ops is up) refl))
          ∙ append_assoc done (op ∷ []) (filter is_write ops)
      | false ↦ λ is. sorted done ops rest parts.1
    ] refl

-- the rules one after another
passes : (holds : Bool) (rule : Rule) (next : Option Rule) → holds ≡ true → next ≡ None → rule_unless holds rule next ≡ None
passes true rule next is none = none
passes false rule next is none = absurd (false≢true is)

pub good_evidence : (old : VotingView) → IsOpen old.txn → IsVoting old → has_votes old ≡ true → IsGood old.txn.levels old.txn.ops old.votes
good_evidence old ops votes all =
    let there : (server : ℕ) → is_server_of old.txn.ops server ≡ true → has_vote old.votes server ≡ true =
    λ server is. has-all (has_vote old.votes) old.txn.voters server all (ops.voters server ∙ is) in
    let covered : are_covered old.txn.ops old.votes ≡ true =
    and_from _ (are_grants_covered old.txn.ops old.votes) (and_from _ _ votes.rise votes.voters) (covered_ops old.votes old.txn.ops there votes.covered) in
    let in_order : writes_by_file old.txn.ops ≡ writes_in old.txn.ops = sorted [] old.txn.ops ops.rise refl in
    let writes : have_writes old.txn.ops old.votes ≡ true = rw in_order votes.writes in
    passes _ _ _ ops.quorums
    (passes _ _ _ ops.exclusive
    (passes _ _ _ covered
    (passes _ _ _ writes
    (passes _ _ _ (and_from _ _ ops.rise ops.versions)
    (passes _ _ _ votes.some refl)))))
