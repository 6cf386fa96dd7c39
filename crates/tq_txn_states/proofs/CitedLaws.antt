-- What is kept stands among what was told, from one answer to the next.
use Rattle.std.proofs.Common.{◌≡◌, ◌==◌, ℕ, Bool, true, false, ◌&&◌, cond, List, [], ◌∷◌, ◌++◌, nat_lt, Some, None, refl, sym, ap, ◌∙◌, subst}
use Rattle.std.proofs.lemmas.Bool.{and_parts, eqb-true}
use Rattle.std.proofs.lemmas.List.Elements.{All-cons, All-head, All-nil, All-tail, All-weaker, Contains-append_left, Contains-append_right, Contains-push}
use Rattle.std.specs.{Cmp.Lexicographic.same_text, List.{All, Contains, cons_option}, Option.unwrap_or, Ordering.is_lt}
use Rattle.tq_store.specs.{Copies.name_cmp, declared.write.Write.Write, Names.same_name}
use Rattle.tq_asks.specs.declared.ask.{NodeAsk.NodeAsk, NodeAsk.TheVariants.Work, NodeReply.NodeReply}
use Rattle.tq_asks.specs.declared.ask.{NodeReply.TheVariants.{Granted, Yes}, WorkAsk.TheVariants.{Lock, Prepare}}
use Rattle.tq_desk.specs.declared.ask.DeskAsk.TheVariants.{Commit}
use Rattle.tq_evidence.specs.declared.{grant.Grant.Grant, op.Op.Op, op.OpKind.OpKind, vote.Vote.Vote}
use Rattle.tq_evidence.specs.Evidence.{writes_file}
use Rattle.tq_evidence.specs.declared.op.OpKind.TheVariants as kinds
use Rattle.tq_txn_states.{specs.declared.told.NodeTold.NodeTold, proofs.GoodGrants.{any_fit, grants_again}}
use Rattle.tq_txn_states.specs.Voting.{grant_told, answers_of, vote_told, AddsOnly, AddsVote, CitesOnly, IsOpTold, IsVoteTold, KeepsOnly, VotesOnly, VotingView, voted_by, vote_of, with_vote, voting_of, evidence_of, has_vote, is_of_server, txn_after_vote, vote_after}
use Rattle.tq_txn_states.specs.Open.{OpenView, fits, granted_by, grant_of, grants_of, txn_after_op, txn_after_rewrite, put, with_first_changed}

-- ---- lists

some_is : {X : Type 0} (a b : X) → Some a ≡ Some b → a ≡ b
some_is a b same = ap (λ found. unwrap_or found a) same

module _ {X : Type 0} (P : X → Type 0) where
  all_put : (later : X → Bool) (x : X) (xs : List X) → P x → All P xs → All P (put later x xs)
  all_put later x [] here all = All-cons P x [] here all
  all_put later x (first ∷ rest) here all =
      elim (later first) as (λ b. All P (cond b (x ∷ first ∷ rest) (first ∷ put later x rest))) [
        | true ↦ All-cons P x (first ∷ rest) here all
        | false ↦ All-cons P first (put later x rest) (All-head P first rest all) (all_put later x rest here (All-tail P first rest all))
      ]

  all_changed : (test : X → Bool) (change : X → X) → ((x : X) → P x → P (change x)) → (xs : List X) → All P xs → All P (with_first_changed test change xs)
  all_changed test change keeps [] all = all
  all_changed test change keeps (first ∷ rest) all =
      elim (test first) as (λ b. All P (cond b (change first ∷ rest) (first ∷ with_first_changed test change rest))) [
        | true ↦ All-cons P (change first) rest (keeps first (All-head P first rest all)) (All-tail P first rest all)
        | false ↦ All-cons P first (with_first_changed test change rest) (All-head P first rest all) (all_changed test change keeps rest (All-tail P first rest all))
      ]

-- ---- more is told

op_more : (txn : ℕ) (told more : List NodeTold) (op : Op) → IsOpTold txn told op → IsOpTold txn (told ++ more) op
op_more txn told more op is =
    All-weaker (λ (grant : Grant). Contains told (grant_told txn op.file grant)) (λ (grant : Grant). Contains (told ++ more) (grant_told txn op.file grant))
    (λ grant here. Contains-append_left told more (grant_told txn op.file grant) here) op.grants is

vote_more : (txn : ℕ) (told more : List NodeTold) (vote : Vote) → IsVoteTold txn told vote → IsVoteTold txn (told ++ more) vote
vote_more txn told more vote is = (is.0, Contains-append_left told more (vote_told txn vote is.0) is.1)

-- ---- a grant is an answer

granted_is : (kind : OpKind) (txn : ℕ) (file : List ℕ) (server number : ℕ) (ask : NodeAsk) (reply : NodeReply) (grant : Grant) → granted_by kind txn file server number ask reply ≡ Some grant → record { server = server; number = number; ask = ask; reply = reply } ≡ grant_told txn file grant
granted_is kind txn file server number (Work (Lock mode locker locked)) (Granted version content) grant is =
    elim (locker == txn && same_name locked file && fits kind mode) as (λ b. (locker == txn && same_name locked file && fits kind mode) ≡ b → cond b (Some (record { server = server; number = number; mode = mode; version = version; content = content })) None ≡ Some grant → record { server = server; number = number; ask = Work (Lock mode locker locked); reply = Granted version content } ≡ grant_told txn file grant) [
      | true ↦ λ test e.
          let parts = and_parts (locker == txn && same_name locked file) (fits kind mode) test in
          let both = and_parts (locker == txn) (same_name locked file) parts.0 in
          let by = eqb-true locker txn both.0 in
          let on = same_text locked file (sym both.1) in
          (λ i. record { server = server; number = number; ask = Work (Lock mode (by i) (on i)); reply = Granted version content }) ∙ ap (grant_told txn file) (some_is _ grant e)
      | false ↦ λ test e. cc
    ] refl is
granted_is kind txn file server number ask reply grant is = cc

grants_told : (kind : OpKind) (txn : ℕ) (file : List ℕ) (answers : List NodeTold) → All (λ grant. Contains answers (grant_told txn file grant)) (grants_of kind txn file answers)
grants_told kind txn file [] = All-nil (λ (grant : Grant). Contains [] (grant_told txn file grant))
grants_told kind txn file (first ∷ rest) =
    let P : Grant → Type 0 = λ grant. Contains (first ∷ rest) (grant_told txn file grant) in
    let later : All P (grants_of kind txn file rest) =
    All-weaker (λ (grant : Grant). Contains rest (grant_told txn file grant)) P (λ grant is. Contains-append_right (first ∷ []) rest (grant_told txn file grant) is) (grants_of kind txn file rest) (grants_told kind txn file rest) in
    elim (grant_of kind txn file first) as (λ o. grant_of kind txn file first ≡ o → All P (cons_option o (grants_of kind txn file rest))) [
      | None ↦ λ is. later
      | Some grant ↦ λ is.
          let told = granted_is kind txn file first.server first.number first.ask first.reply grant is in
          let here : P grant = subst (Contains (first ∷ rest)) told (Contains-append_left (first ∷ []) rest first (Contains-push [] first)) in
          All-cons P grant (grants_of kind txn file rest) here later
    ] refl

op_told : (kind : OpKind) (txn : ℕ) (file : List ℕ) (told answers : List NodeTold) → All (λ grant. Contains (told ++ answers) (grant_told txn file grant)) (grants_of kind txn file answers)
op_told kind txn file told answers =
    All-weaker (λ (grant : Grant). Contains answers (grant_told txn file grant)) (λ (grant : Grant). Contains (told ++ answers) (grant_told txn file grant))
    (λ grant here. Contains-append_right told answers (grant_told txn file grant) here) (grants_of kind txn file answers) (grants_told kind txn file answers)

-- ---- a transaction that reads and writes

taken_keeps : (old : OpenView) (op : Op) (told answers : List NodeTold) → IsOpTold old.txn (told ++ answers) op → KeepsOnly told old → KeepsOnly (told ++ answers) (txn_after_op old op)
taken_keeps old op told answers here is =
    (all_put (IsOpTold old.txn (told ++ answers)) (λ (other : Op). is_lt (name_cmp op.file other.file)) op old.ops here (All-weaker (IsOpTold old.txn told) (IsOpTold old.txn (told ++ answers)) (op_more old.txn told answers) old.ops is.0), All-nil (IsVoteTold old.txn (told ++ answers)))

pub rewrite_keeps : (old : OpenView) (file content : List ℕ) (told : List NodeTold) → KeepsOnly told old → KeepsOnly told (txn_after_rewrite old file content)
rewrite_keeps old file content told is =
    (all_changed (IsOpTold old.txn told) (writes_file file) (λ (op : Op). record op { content = content }) (λ op here. here) old.ops is.0, All-nil (IsVoteTold old.txn told))

-- ---- a transaction that gathers votes

voted_is : (txn server number : ℕ) (ask : NodeAsk) (reply : NodeReply) (vote : Vote) → voted_by txn server number ask reply ≡ Some vote → (asked : List Write) × (record { server = server; number = number; ask = ask; reply = reply } ≡ vote_told txn vote asked)
voted_is txn server number (Work (Prepare voter asked)) (Yes held writes) vote is =
    elim (voter == txn) as (λ b. (voter == txn) ≡ b → cond b (Some (record { server = server; number = number; held = held; writes = writes })) None ≡ Some vote → (asks : List Write) × (record { server = server; number = number; ask = Work (Prepare voter asked); reply = Yes held writes } ≡ vote_told txn vote asks)) [
      | true ↦ λ test e.
          let by = eqb-true voter txn test in
          (asked, (λ i. record { server = server; number = number; ask = Work (Prepare (by i) asked); reply = Yes held writes }) ∙ ap (λ (v : Vote). vote_told txn v asked) (some_is _ vote e))
      | false ↦ λ test e. cc
    ] refl is
voted_is txn server number ask reply vote is = cc

votes_keep : (P : Vote → Type 0) (vote : Vote) (votes : List Vote) → P vote → All P votes → All P (with_vote vote votes)
votes_keep P vote votes here all =
    elim (has_vote votes vote.server) as (λ b. All P (cond b (with_first_changed (is_of_server vote.server) (λ other. vote) votes) (put (λ (other : Vote). nat_lt vote.server other.server) vote votes))) [
      | true ↦ all_changed P (is_of_server vote.server) (λ other. vote) (λ other there. here) votes all
      | false ↦ all_put P (λ (other : Vote). nat_lt vote.server other.server) vote votes here all
    ]

pub vote_keeps : (old : VotingView) (answer : NodeTold) (told : List NodeTold) → VotesOnly told old → VotesOnly (told ++ answer ∷ []) (vote_after old answer)
vote_keeps old answer told is =
    let all = told ++ answer ∷ [] in
    let txn = old.txn.txn in
    let ops = All-weaker (IsOpTold txn told) (IsOpTold txn all) (op_more txn told (answer ∷ [])) old.txn.ops is.0 in
    let votes = All-weaker (IsVoteTold txn told) (IsVoteTold txn all) (vote_more txn told (answer ∷ [])) old.votes is.1 in
    elim (vote_of txn answer) as (λ o. vote_of txn answer ≡ o → VotesOnly all (txn_after_vote old o)) [
      | None ↦ λ e. (ops, votes)
      | Some vote ↦ λ e.
          let same = voted_is txn answer.server answer.number answer.ask answer.reply vote e in
          let here : IsVoteTold txn all vote = (same.0, subst (Contains all) same.1 (Contains-push told answer)) in
          (ops, votes_keep (IsVoteTold txn all) vote old.votes here votes)
    ] refl

-- ---- the same, of what a call leaves

pub taken_cited : (kind : OpKind) (old new : OpenView) (op : Op) (answers : List NodeTold) → new ≡ txn_after_op old op → op.grants ≡ grants_of kind old.txn op.file answers → AddsOnly answers old new
taken_cited kind old new op answers is grants told kept =
    let P : List Grant → Type 0 = λ gs. All (λ grant. Contains (told ++ answers) (grant_told old.txn op.file grant)) gs in
    let here : IsOpTold old.txn (told ++ answers) op = subst P (sym grants) (op_told kind old.txn op.file told answers) in
    subst (KeepsOnly (told ++ answers)) (sym is) (taken_keeps old op told answers here kept)

-- the same, by the answers that told of its grants
pub granted_cited : (old new : OpenView) (op : Op) (grants : List Grant) → new ≡ txn_after_op old op → op.grants ≡ grants → AddsOnly (answers_of old.txn op.file grants) old new
granted_cited old new op grants is same =
    taken_cited kinds.Read old new op (answers_of old.txn op.file grants) is (same ∙ sym (grants_again kinds.Read old.txn op.file grants (any_fit grants)))

pub close_cited : (old : OpenView) (new : VotingView) → new ≡ voting_of old → (told : List NodeTold) → KeepsOnly told old → VotesOnly told new
close_cited old new is told kept = subst (VotesOnly told) (sym is) kept

pub vote_cited : (old new : VotingView) (answer : NodeTold) (txn : ℕ) (vote : Vote) → txn ≡ old.txn.txn → vote_of txn answer ≡ Some vote → new ≡ record old { votes = with_vote vote old.votes } → AddsVote answer old new
vote_cited old new answer txn vote same found is told kept =
    let P : ℕ → Type 0 = λ number. vote_of number answer ≡ Some vote in
    let by : vote_after old answer ≡ record old { votes = with_vote vote old.votes } = ap (txn_after_vote old) (subst P same found) in
    subst (VotesOnly (told ++ answer ∷ [])) (by ∙ sym is) (vote_keeps old answer told kept)

pub evidence_cited : (old : VotingView) (txn : ℕ) (ops : List Op) (votes : List Vote) → txn ≡ old.txn.txn → ops ≡ old.txn.ops → votes ≡ old.votes → (told : List NodeTold) → VotesOnly told old → CitesOnly told (Commit txn ops votes)
evidence_cited old txn ops votes of_txn of_ops of_votes told kept =
    let same : evidence_of old ≡ Commit txn ops votes = λ i. Commit (sym of_txn i) (sym of_ops i) (sym of_votes i) in
    subst (CitesOnly told) same kept
