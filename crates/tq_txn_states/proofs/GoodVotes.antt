-- The vote that an answer tells of, by the ask. A vote that is put in takes away no other server's. A vote put at its
-- place, and what a list of votes keeps.
use Rattle.std.proofs.Common.{◌≡◌, ℕ, true, false, List, Option, Some, None, Result, Ok, Err, refl, ◌==◌, Bool, ◌||◌, cond, [], ◌∷◌, nat_lt, subst, not, ◌&&◌, map, set, length, slice_get, ◌≤◌, sym, ap, ◌∙◌}
use Rattle.std.{proofs.lemmas.Bool.{false≢true, eqb-true, or_right}, specs.Prelude.IfErr}
use Rattle.std.specs.{List.{list_all, insert, find, Sorted.IsPartitionPoint}, Option.{option_map, option_map_or}}
use Rattle.tq_store.specs.declared.write.Write.{Write}
use Rattle.tq_asks.specs.declared.ask.{HeldLock.HeldLock, NodeAsk.NodeAsk, NodeAsk.TheVariants.Work}
use Rattle.tq_asks.specs.declared.ask.{NodeReply.NodeReply, NodeReply.TheVariants.Yes, WorkAsk.TheVariants.Prepare}
use Rattle.tq_txn_states.specs.declared.fault.TxnFault.{TxnFault, TheVariants.Memory}
use Rattle.tq_txn_states.{specs.Open.{ComesOf, put, with_first_changed}, proofs.Puts.{list_all-put, list_all-changed}}
use Rattle.tq_txn_states.specs.Voting.{is_prepare_of, voted_by, KeepsVotes, has_vote, is_of_server, with_vote, VotingView, covers_op, writes_in, lost_file, IsVoting, IsGoodVote}
use Rattle.tq_txn_states.proofs.Searched.{has-map, map-put, rises-with_server, found_at, put_at, changed_at}
use Rattle.tq_evidence.specs.declared.{vote.Vote.Vote, op.Op.Op}
use Rattle.tq_evidence.specs.Evidence.{rises, votes_rise, has_writes, is_server_of}

pub cast_none : (txn server number : ℕ) (ask : NodeAsk) (reply : NodeReply) → is_prepare_of txn ask ≡ false → voted_by txn server number ask reply ≡ None
cast_none txn server number (Work (Prepare voter asked)) (Yes held writes) none = rw none refl
cast_none txn server number ask reply none = refl

pub cast_some : (txn server number : ℕ) (ask : NodeAsk) (held : List HeldLock) (writes : List Write) → is_prepare_of txn ask ≡ true → voted_by txn server number ask (Yes held writes) ≡ Some (record { server = server; number = number; held = held; writes = writes })
cast_some txn server number (Work (Prepare voter asked)) held writes is = rw is refl
cast_some txn server number ask held writes is = absurd (false≢true is)

-- ---- kept votes

either : (a b c : Bool) → (b ≡ true → c ≡ true) → (a || b) ≡ true → (a || c) ≡ true
either true b c h is = refl
either false b c h is = h is

kept_put : (later : Vote → Bool) (vote : Vote) (votes : List Vote) → KeepsVotes votes (put later vote votes)
kept_put later vote [] n here = absurd (false≢true here)
kept_put later vote (first ∷ rest) n here =
    elim (later first) as (λ b. has_vote (cond b (vote ∷ first ∷ rest) (first ∷ put later vote rest)) n ≡ true) [
      | true ↦ or_right (vote.server == n) (has_vote (first ∷ rest) n) here
      | false ↦ either (first.server == n) (has_vote rest n) (has_vote (put later vote rest) n) (kept_put later vote rest n) here
    ]

kept_changed : (vote : Vote) (votes : List Vote) → KeepsVotes votes (with_first_changed (is_of_server vote.server) (λ other. vote) votes)
kept_changed vote [] n here = here
kept_changed vote (first ∷ rest) n here =
    elim (first.server == vote.server) as (λ b. (first.server == vote.server) ≡ b → has_vote (cond b (vote ∷ rest) (first ∷ with_first_changed (is_of_server vote.server) (λ other. vote) rest)) n ≡ true) [
      | true ↦ λ is. subst (λ (s : ℕ). ((s == n) || has_vote rest n) ≡ true) (eqb-true first.server vote.server is) here
      | false ↦ λ is. either (first.server == n) (has_vote rest n) (has_vote (with_first_changed (is_of_server vote.server) (λ other. vote) rest) n) (kept_changed vote rest n) here
    ] refl

pub kept_with_vote : (vote : Vote) (votes : List Vote) → KeepsVotes votes (with_vote vote votes)
kept_with_vote vote votes n here =
    elim (has_vote votes vote.server) as (λ b. has_vote (cond b (with_first_changed (is_of_server vote.server) (λ other. vote) votes) (put (λ (other : Vote). nat_lt vote.server other.server) vote votes)) n ≡ true) [
      | true ↦ kept_changed vote votes n here
      | false ↦ kept_put (λ (other : Vote). nat_lt vote.server other.server) vote votes n here
    ]

-- ---- good votes

pub votes_rise-map : (votes : List Vote) → votes_rise votes ≡ rises (map (λ vote. vote.server) votes)
votes_rise-map [] = refl
votes_rise-map (first ∷ []) = refl
votes_rise-map (first ∷ second ∷ rest) = ap (λ b. nat_lt first.server second.server && b) (votes_rise-map (second ∷ rest))

-- where the votes of lesser servers end
abbrev pub IsPlace : ℕ → List Vote → ℕ → Type 0
IsPlace server votes place = IsPartitionPoint (λ vote. nat_lt vote.server server ≡ true) (λ vote. nat_lt vote.server server ≡ false) votes place

-- the server's vote stands there, or nowhere
pub found_vote : (server : ℕ) (votes : List Vote) (place : ℕ) → votes_rise votes ≡ true → IsPlace server votes place → has_vote votes server ≡ option_map_or (is_of_server server) (slice_get votes place) false
found_vote server votes place up point = found_at (λ (vote : Vote). vote.server) server votes place (sym (votes_rise-map votes) ∙ up) point

-- a vote in place of that of its server
pub placed : (vote : Vote) (votes : List Vote) (place : ℕ) → votes_rise votes ≡ true → IsPlace vote.server votes place → option_map_or (is_of_server vote.server) (slice_get votes place) false ≡ true → set votes place vote ≡ with_vote vote votes
placed vote votes place up point is =
    rw (found_vote vote.server votes place up point ∙ is) (changed_at (λ (other : Vote). other.server) vote votes place point is)

-- a vote of another server
pub inserted : (vote : Vote) (votes : List Vote) (place : ℕ) → votes_rise votes ≡ true → place ≤ length votes → IsPlace vote.server votes place → option_map_or (is_of_server vote.server) (slice_get votes place) false ≡ false → insert votes place vote ≡ with_vote vote votes
inserted vote votes place up within point none =
    let absent = found_vote vote.server votes place up point ∙ none in
    rw absent (put_at (λ (other : Vote). other.server) vote votes place within point absent)

same_servers : (vote : Vote) (votes : List Vote) → map (λ v. v.server) (with_first_changed (is_of_server vote.server) (λ other. vote) votes) ≡ map (λ v. v.server) votes
same_servers vote [] = refl
same_servers vote (first ∷ rest) =
    elim (first.server == vote.server) as (λ b. (first.server == vote.server) ≡ b → map (λ v. v.server) (cond b (vote ∷ rest) (first ∷ with_first_changed (is_of_server vote.server) (λ other. vote) rest)) ≡ first.server ∷ map (λ v. v.server) rest) [
      | true ↦ λ is. ap (λ s. s ∷ map (λ v. v.server) rest) (sym (eqb-true first.server vote.server is))
      | false ↦ λ is. ap (λ ss. first.server ∷ ss) (same_servers vote rest)
    ] refl

pub votes_rise-with_vote : (vote : Vote) (votes : List Vote) → votes_rise votes ≡ true → votes_rise (with_vote vote votes) ≡ true
votes_rise-with_vote vote votes up =
    let up_numbers = sym (votes_rise-map votes) ∙ up in
    elim (has_vote votes vote.server) as (λ b. has_vote votes vote.server ≡ b → votes_rise (cond b (with_first_changed (is_of_server vote.server) (λ other. vote) votes) (put (λ other. nat_lt vote.server other.server) vote votes)) ≡ true) [
      | true ↦ λ is. votes_rise-map (with_first_changed (is_of_server vote.server) (λ other. vote) votes) ∙ ap rises (same_servers vote votes) ∙ up_numbers
      | false ↦ λ is. votes_rise-map (put (λ other. nat_lt vote.server other.server) vote votes) ∙ ap rises (map-put (λ (v : Vote). v.server) vote votes)
          ∙ rises-with_server vote.server (map (λ v. v.server) votes) (has-map (λ (v : Vote). v.server) votes vote.server ∙ is) up_numbers
    ] refl

pub list_all-with_vote : (p : Vote → Bool) (vote : Vote) (votes : List Vote) → p vote ≡ true → list_all p votes ≡ true → list_all p (with_vote vote votes) ≡ true
list_all-with_vote p vote votes here all =
    elim (has_vote votes vote.server) as (λ b. list_all p (cond b (with_first_changed (is_of_server vote.server) (λ other. vote) votes) (put (λ other. nat_lt vote.server other.server) vote votes)) ≡ true) [
      | true ↦ list_all-changed (is_of_server vote.server) (λ other. vote) p votes (λ x is was. here) all
      | false ↦ list_all-put (λ other. nat_lt vote.server other.server) p vote votes here all
    ]

-- a good vote more
pub IsVoting-with_vote : (old : VotingView) (vote : Vote) → IsGoodVote old.txn.ops vote → IsVoting old → IsVoting (record old { votes = with_vote vote old.votes })
IsVoting-with_vote old vote good all =
    record {
      some = all.some;
      rise = votes_rise-with_vote vote old.votes all.rise;
      voters = list_all-with_vote (λ v. is_server_of old.txn.ops v.server) vote old.votes good.voter all.voters;
      covered = list_all-with_vote (λ v. list_all (covers_op v) old.txn.ops) vote old.votes good.covered all.covered;
      writes = list_all-with_vote (has_writes (writes_in old.txn.ops)) vote old.votes good.writes all.writes;
    }

-- a vote that lost no lock covers each grant
pub none_lost : (ops : List Op) (vote : Vote) → lost_file ops vote ≡ None → list_all (covers_op vote) ops ≡ true
none_lost [] vote none = refl
none_lost (op ∷ ops) vote none =
    elim (covers_op vote op) as (λ b. option_map (λ o. o.file) (cond (not b) (Some op) (find (λ o. not (covers_op vote o)) ops)) ≡ None → (b && list_all (covers_op vote) ops) ≡ true) [
      | true ↦ λ rest. none_lost ops vote rest
      | false ↦ λ some. cc
    ] none
