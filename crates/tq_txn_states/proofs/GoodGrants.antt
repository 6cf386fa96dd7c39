-- What a test of the coterie says of a list of servers. The answers that told of grants, and what an operation by them
-- is refused for. What a list of grants shows of the operation that rests on it.
use Rattle.std.proofs.Common.{◌≡◌, ◌==◌, ℕ, ◌-◌, ◌<◌, ◌≤◌, length, get_or, arith, true, false, ◌&&◌, List, [], ◌∷◌, refl, sym, ap, ◌∙◌, subst, not, cond, Some, None, is_none, ◌+◌, Bool, ◌||◌, Option, max, fold, inl, inr, ◌⊎◌}
use Rattle.std.proofs.lemmas.Bool.{false≢true, and_from, and_parts, and_right, eq-eqb, or_left, or_right, cases_lt}
use Rattle.std.proofs.lemmas.{List.{get_or-map, length-map}, Map.Views.Contains-from_any}
use Rattle.std.specs.{List.{Contains, list_all, find, cons_option, list_any}, Option.option_map}
use Rattle.std.specs.Cmp.Lexicographic.{same_text, nat_list_eq_equiv}
use Rattle.tq_coterie.specs.Coterie.{coterie, is_quorum, servers_of, numbers_of, IsMemberList}
use Rattle.tq_coterie.proofs.{Members.members-meet, Marked.tested, Parts.{Ascends-member, member-servers}}
use Rattle.tq_shape.specs.{Tree.{Server, IsServer}, Journal.{refuse, refuse_for, or_else}}
use Rattle.tq_evidence.specs.Evidence.{rises, granters, is_exclusively_granted, greatest, newest, has_version}
use Rattle.tq_evidence.specs.declared.{grant.Grant.Grant, op.OpKind.OpKind, op.OpKind.TheVariants.{Read, Write}}
use Rattle.tq_txn_states.proofs.Searched.{rises-ascends}
use Rattle.tq_txn_states.specs.{declared.told.NodeTold.NodeTold, Voting.{grant_told, answers_of}}
use Rattle.tq_txn_states.specs.declared.fault.TxnFault.TheVariants.{AlreadyThere, TooManyOps, NotAGrant, NotAMember}
use Rattle.tq_txn_states.specs.Open.{OpenView, fits, grant_of, grants_of, not_a_grant, is_member, is_used, is_written, has_all_ops, grants_fault, read_fault, version_fault, write_fault, IsGoodOp, granted_by, read_op, write_op, copy_in}
use Rattle.tq_store.specs.Names.{same_name}
use Rattle.tq_locks.specs.{Locks.is_exclusive, declared.mode.Mode.Mode}
use Rattle.tq_asks.specs.declared.ask.{NodeAsk.NodeAsk, NodeAsk.TheVariants.Work, NodeReply.NodeReply}
use Rattle.tq_asks.specs.declared.ask.{NodeReply.TheVariants.Granted, WorkAsk.TheVariants.Lock}

pub no_member : (levels : ℕ) (numbers : List ℕ) → (Contains (coterie levels) numbers → ⊥) → is_quorum levels numbers ≡ false
no_member levels numbers none = sym (tested levels numbers false (λ e. absurd (false≢true e), λ h. absurd (none h)))

pub a_member : (levels : ℕ) (numbers : List ℕ) → Contains (coterie levels) numbers → is_quorum levels numbers ≡ true
a_member levels numbers some = sym (tested levels numbers true (λ e. some, λ h. refl))

pub empty_set : (levels : ℕ) → is_quorum levels [] ≡ false
empty_set levels = no_member levels [] (λ h. let meets = members-meet (levels - 1) 1 [] [] h h in false≢true meets.1)

-- a list that the test of the coterie finds is a member
pub is_member_of : (levels : ℕ) (numbers : List ℕ) → is_quorum levels numbers ≡ true → Contains (coterie levels) numbers
is_member_of levels numbers is = Contains-from_any (λ x y same. same_text x y (sym same)) numbers (coterie levels) is

tested_rise : (levels : ℕ) (numbers : List ℕ) → is_quorum levels numbers ≡ true → rises numbers ≡ true
tested_rise levels numbers is = rises-ascends 0 numbers (Ascends-member (levels - 1) 1 numbers (omega arith) (is_member_of levels numbers is))

-- the servers of a quorum ascend, so the test of the coterie says that too
pub rise_too : (levels : ℕ) (numbers : List ℕ) → is_quorum levels numbers ≡ (rises numbers && is_quorum levels numbers)
rise_too levels numbers =
    elim (is_quorum levels numbers) as (λ b. is_quorum levels numbers ≡ b → b ≡ (rises numbers && b)) [
      | true ↦ λ is. sym (and_from (rises numbers) true (tested_rise levels numbers is) refl)
      | false ↦ λ _. sym (and_right (rises numbers) false refl)
    ] refl

-- where they are a quorum, the server of each grant is one of its tree
pub granter_of : (levels : ℕ) (grants : List Grant) (grant : Grant) (index : ℕ) → 1 ≤ levels → is_quorum levels (granters grants) ≡ true → index < length grants → grant ≡ get_or grants index grant → IsServer levels grant.server
granter_of levels grants grant index some is within at =
    let all = member-servers levels (granters grants) some (is_member_of levels (granters grants) is) in
    let here : get_or (granters grants) index 0 ≡ grant.server = get_or-map (λ (g : Grant). g.server) grants index grant 0 within ∙ ap (λ (g : Grant). g.server) (sym at) in
    subst (IsServer levels) here (all index 0 (rw (length-map grants (λ (g : Grant). g.server)) within))

same_levels : (levels : ℕ) (numbers : List ℕ) → list_all (λ id. id.levels == levels) (servers_of levels numbers) ≡ true
same_levels levels [] = refl
same_levels levels (first ∷ rest) = and_from (levels == levels) (list_all (λ id. id.levels == levels) (servers_of levels rest)) (eq-eqb levels levels refl) (same_levels levels rest)

-- the servers of a quorum are of its tree
pub of_tree : (levels : ℕ) (servers : List Server) → IsMemberList levels servers → list_all (λ id. id.levels == levels) servers ≡ true
of_tree levels servers is =
    let P : List Server → Type 0 = λ ids. list_all (λ id. id.levels == levels) ids ≡ true in
    subst P (sym is.tree) (same_levels levels (numbers_of servers))

all_same : (levels tree : ℕ) (numbers : List ℕ) → (tree == levels) ≡ true → list_all (λ id. id.levels == levels) (servers_of tree numbers) ≡ true
all_same levels tree [] is = refl
all_same levels tree (first ∷ rest) is = and_from (tree == levels) (list_all (λ id. id.levels == levels) (servers_of tree rest)) is (all_same levels tree rest is)

tree_tested : (levels tree : ℕ) (numbers : List ℕ) → (numbers ≡ [] → ⊥) → list_all (λ id. id.levels == levels) (servers_of tree numbers) ≡ (tree == levels)
tree_tested levels tree [] some = absurd (some refl)
tree_tested levels tree (first ∷ rest) some =
    elim (tree == levels) as (λ b. (tree == levels) ≡ b → (b && list_all (λ id. id.levels == levels) (servers_of tree rest)) ≡ b) [
      | true ↦ λ is. all_same levels tree rest is
      | false ↦ λ is. refl
    ] refl

not_empty : (tree : ℕ) (servers : List Server) → IsMemberList tree servers → numbers_of servers ≡ [] → ⊥
not_empty tree servers is none =
    let P : List ℕ → Type 0 = λ numbers. is_quorum tree numbers ≡ true in
    false≢true (sym (empty_set tree) ∙ subst P none (a_member tree (numbers_of servers) is.member))

-- a test of each server of a quorum is one of its tree
pub same_tree : (levels tree : ℕ) (servers : List Server) → IsMemberList tree servers → list_all (λ id. id.levels == levels) servers ≡ (tree == levels)
same_tree levels tree servers is =
    ap (list_all (λ (id : Server). id.levels == levels)) is.tree ∙ tree_tested levels tree (numbers_of servers) (not_empty tree servers is)

-- the operation's grants are of a quorum, of whichever tree is this one
pub quorum_found : (levels tree : ℕ) (granted found : List Grant) → (rises (granters granted) && is_quorum levels (granters granted)) ≡ true → found ≡ granted → levels ≡ tree → is_quorum tree (granters found) ≡ true
quorum_found levels tree granted found good is same =
    let quorum = and_parts (rises (granters granted)) (is_quorum levels (granters granted)) good in
    rw (is, ← same) quorum.1

-- ---- granted

module _ (kind : OpKind) (txn : ℕ) (file : List ℕ) where
  -- an answer tells of the grant that it was made of
  told_again : (grant : Grant) → fits kind grant.mode ≡ true → grant_of kind txn file (grant_told txn file grant) ≡ Some grant
  told_again grant fit =
      let same = and_from (txn == txn) (same_name file file) (eq-eqb txn txn refl) (nat_list_eq_equiv.refl file) in
      let test = and_from (txn == txn && same_name file file) (fits kind grant.mode) same fit in
      ap (λ b. cond b (Some grant) None) test

  pub grants_again : (grants : List Grant) → list_all (λ grant. fits kind grant.mode) grants ≡ true → grants_of kind txn file (answers_of txn file grants) ≡ grants
  grants_again [] all = refl
  grants_again (first ∷ rest) all =
      let parts = and_parts (fits kind first.mode) (list_all (λ (grant : Grant). fits kind grant.mode) rest) all in
      ap (λ found. cons_option found (grants_of kind txn file (answers_of txn file rest))) (told_again first parts.0) ∙ ap (λ more. first ∷ more) (grants_again rest parts.1)

  none_refused : (grants : List Grant) → list_all (λ grant. fits kind grant.mode) grants ≡ true → not_a_grant kind txn file (answers_of txn file grants) ≡ None
  none_refused [] all = refl
  none_refused (first ∷ rest) all =
      let parts = and_parts (fits kind first.mode) (list_all (λ (grant : Grant). fits kind grant.mode) rest) all in
      ap (λ found. option_map (λ (told : NodeTold). told.server) (cond (is_none found) (Some (grant_told txn file first)) (find (λ told. is_none (grant_of kind txn file told)) (answers_of txn file rest)))) (told_again first parts.0)
      ∙ none_refused rest parts.1

no_fault : (kind : OpKind) (old : OpenView) (file : List ℕ) (grants : List Grant) → has_all_ops old ≡ false → is_member old.levels grants ≡ true → list_all (λ grant. fits kind grant.mode) grants ≡ true → grants_fault kind old file (answers_of old.txn file grants) ≡ None
no_fault kind old file grants few member fit =
    let answers = answers_of old.txn file grants in
    ap (λ b. refuse b TooManyOps (refuse_for (not_a_grant kind old.txn file answers) NotAGrant (refuse (not (is_member old.levels (grants_of kind old.txn file answers))) NotAMember None))) few
    ∙ ap (λ found. refuse_for found NotAGrant (refuse (not (is_member old.levels (grants_of kind old.txn file answers))) NotAMember None)) (none_refused kind old.txn file grants fit)
    ∙ ap (λ all. refuse (not (is_member old.levels all)) NotAMember None) (grants_again kind old.txn file grants fit)
    ∙ ap (λ b. refuse (not b) NotAMember None) member

-- a read rests on locks of either mode
pub any_fit : (grants : List Grant) → list_all (λ grant. fits Read grant.mode) grants ≡ true
any_fit [] = refl
any_fit (first ∷ rest) = any_fit rest

pub read_as_told : (old : OpenView) (file : List ℕ) (grants : List Grant) → is_used old.ops file ≡ false → has_all_ops old ≡ false → is_member old.levels grants ≡ true → read_fault old file (answers_of old.txn file grants) ≡ None
read_as_told old file grants fresh few member =
    ap (λ b. refuse b AlreadyThere (grants_fault Read old file (answers_of old.txn file grants))) fresh ∙ no_fault Read old file grants few member (any_fit grants)

pub write_as_told : (old : OpenView) (file : List ℕ) (grants : List Grant) → is_written old.ops file ≡ false → has_all_ops old ≡ false → is_member old.levels grants ≡ true → is_exclusively_granted grants ≡ true → write_fault old file (answers_of old.txn file grants) ≡ version_fault grants
write_as_told old file grants fresh few member exclusive =
    let answers = answers_of old.txn file grants in
    ap (λ b. refuse b AlreadyThere (or_else (grants_fault Write old file answers) (version_fault (grants_of Write old.txn file answers)))) fresh
    ∙ ap (λ fault. or_else fault (version_fault (grants_of Write old.txn file answers))) (no_fault Write old file grants few member exclusive)
    ∙ ap version_fault (grants_again Write old.txn file grants exclusive)

-- ---- good grants

-- ---- the greatest version is that of a grant

above : (most : ℕ) (grants : List Grant) → most ≤ fold (λ best grant. max best grant.version) most grants
above most [] = omega arith
above most (first ∷ rest) = let more = above (max most first.version) rest in omega arith

reached : (most : ℕ) (grants : List Grant) → (fold (λ best grant. max best grant.version) most grants ≡ most) ⊎ (list_any (λ grant. grant.version == fold (λ best grant. max best grant.version) most grants) grants ≡ true)
reached most [] = inl refl
reached most (first ∷ rest) =
    let all = fold (λ (best : ℕ) (grant : Grant). max best grant.version) (max most first.version) rest in
    elim (reached (max most first.version) rest) [
      | inl same ↦ elim (cases_lt most first.version) [
        | inl less ↦ inr (or_left (first.version == all) _ (eq-eqb first.version all (omega arith)))
        | inr more ↦ inl (omega arith)
      ]
      | inr some ↦ inr (or_right (first.version == all) _ some)
    ]

some_greatest : (first : Grant) (rest : List Grant) → list_any (λ grant. grant.version == greatest (first ∷ rest)) (first ∷ rest) ≡ true
some_greatest first rest =
    elim (reached 0 (first ∷ rest)) [
      | inl none ↦ or_left (first.version == greatest (first ∷ rest)) _ (eq-eqb first.version (greatest (first ∷ rest)) (let more = above (max 0 first.version) rest in omega arith))
      | inr some ↦ some
    ]

found : {X : Type 0} (p : X → Bool) (xs : List X) → list_any p xs ≡ true → find p xs ≡ None → ⊥
found p [] some none = false≢true some
found p (first ∷ rest) some none =
    elim (p first) as (λ b. (b || list_any p rest) ≡ true → cond b (Some first) (find p rest) ≡ None → ⊥) [
      | true ↦ λ _ e. cc
      | false ↦ λ s e. found p rest s e
    ] some none

no_newest : (levels : ℕ) (grants : List Grant) → is_member levels grants ≡ true → newest grants ≡ None → ⊥
no_newest levels [] member none = false≢true (sym (empty_set levels) ∙ member)
no_newest levels (first ∷ rest) member none = found (λ (grant : Grant). grant.version == greatest (first ∷ rest)) (first ∷ rest) (some_greatest first rest) none

-- ---- a read has the version and content of the newest grant

reads : (file : List ℕ) (grants : List Grant) (found : Option Grant) → newest grants ≡ found → (found ≡ None → ⊥) → has_version (read_op file grants) ≡ true
reads file grants None is some = absurd (some refl)
reads file grants (Some grant) is some =
    rw is (and_from (grant.version == grant.version) (same_name grant.content grant.content) (eq-eqb grant.version grant.version refl) (nat_list_eq_equiv.refl grant.content))

pub good_read : (old : OpenView) (file : List ℕ) (grants : List Grant) → is_member old.levels grants ≡ true → is_used old.ops file ≡ false → IsGoodOp old (read_op file grants)
good_read old file grants member fresh =
    record {
      quorum = member;
      exclusive = refl;
      version = reads file grants (newest grants) refl (no_newest old.levels grants member);
      fresh = fresh;
    }

-- the same, where version and content are known by equations
pub good_read_of : (old : OpenView) (file content : List ℕ) (grants : List Grant) (version : ℕ) → version ≡ (copy_in (newest grants)).version → content ≡ (copy_in (newest grants)).content → is_member old.levels grants ≡ true → is_used old.ops file ≡ false → IsGoodOp old (record { file = file; kind = Read; version = version; content = content; grants = grants })
good_read_of old file content grants version versions contents member fresh = rw (versions, contents) (good_read old file grants member fresh)

-- ---- a write rests on exclusive grants

abbrev exclusive_in : Option Grant → Bool
exclusive_in None = true
exclusive_in (Some grant) = is_exclusive grant.mode

exclusive_if : (server number version : ℕ) (content : List ℕ) (mode : Mode) (b : Bool) → exclusive_in (cond (b && is_exclusive mode) (Some record { server = server; number = number; mode = mode; version = version; content = content }) None) ≡ true
exclusive_if server number version content mode true =
    elim (is_exclusive mode) as (λ e. is_exclusive mode ≡ e → exclusive_in (cond e (Some record { server = server; number = number; mode = mode; version = version; content = content }) None) ≡ true) [
      | true ↦ λ is. is
      | false ↦ λ is. refl
    ] refl
exclusive_if server number version content mode false = refl

exclusive_granted : (txn : ℕ) (file : List ℕ) (server number : ℕ) (ask : NodeAsk) (reply : NodeReply) → exclusive_in (granted_by Write txn file server number ask reply) ≡ true
exclusive_granted txn file server number (Work (Lock mode locker locked)) (Granted version content) = exclusive_if server number version content mode (locker == txn && same_name locked file)
exclusive_granted txn file server number ask reply = refl

exclusive_more : (found : Option Grant) (rest : List Grant) → exclusive_in found ≡ true → list_all (λ grant. is_exclusive grant.mode) rest ≡ true → list_all (λ grant. is_exclusive grant.mode) (cons_option found rest) ≡ true
exclusive_more None rest here all = all
exclusive_more (Some grant) rest here all = and_from (is_exclusive grant.mode) (list_all (λ g. is_exclusive g.mode) rest) here all

pub exclusive_grants : (txn : ℕ) (file : List ℕ) (answers : List NodeTold) → is_exclusively_granted (grants_of Write txn file answers) ≡ true
exclusive_grants txn file [] = refl
exclusive_grants txn file (told ∷ rest) =
    exclusive_more (grant_of Write txn file told) (grants_of Write txn file rest) (exclusive_granted txn file told.server told.number told.ask told.reply) (exclusive_grants txn file rest)

pub good_write : (old : OpenView) (file content : List ℕ) (grants : List Grant) → is_member old.levels grants ≡ true → is_exclusively_granted grants ≡ true → is_written old.ops file ≡ false → IsGoodOp old (write_op file content grants)
good_write old file content grants member exclusive fresh =
    record {
      quorum = member;
      exclusive = exclusive;
      version = eq-eqb (greatest grants + 1) (greatest grants + 1) refl;
      fresh = fresh;
    }

pub good_write_by : (old : OpenView) (file content : List ℕ) (grants found : List Grant) (version : ℕ) → version ≡ greatest grants + 1 → found ≡ grants → is_member old.levels grants ≡ true → is_exclusively_granted grants ≡ true → is_written old.ops file ≡ false → IsGoodOp old (record { file = file; kind = Write; version = version; content = content; grants = found })
good_write_by old file content grants found version versions same member exclusive fresh = rw (versions, same) (good_write old file content grants member exclusive fresh)
