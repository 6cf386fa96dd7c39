-- A transaction that gathers votes: each as a voter gave it, once for each voter in the end. What a transaction keeps,
-- and what its commit cites, stands among the answers that it was told.
use Rattle.std.specs.Prelude.{◌≡◌, ◌==◌, ℕ, Bool, true, false, not, ◌||◌, nat_lt, List, [], map, filter, slice_get, Option, Some, None, if◌then◌else◌, ◌∷◌, ◌++◌, OnErr, OnOk, Result}
use Rattle.std.specs.{List.{All, Contains, list_any, list_all, find}, Option.{option_map, option_map_or}}
use Rattle.tq_store.specs.declared.write.Write.{Write}
use Rattle.tq_asks.specs.declared.ask.{NodeAsk.NodeAsk, NodeAsk.TheVariants.Work, NodeReply.NodeReply, WorkAsk.WorkAsk}
use Rattle.tq_asks.specs.declared.ask.{NodeReply.TheVariants.{Yes, Granted}, WorkAsk.TheVariants.{Prepare, Lock}}
use Rattle.tq_desk.specs.declared.ask.{DeskAsk.DeskAsk, DeskAsk.TheVariants.{Commit, Begin, Resolve}}
use Rattle.tq_evidence.specs.declared.{grant.Grant.Grant, op.Op.Op, vote.Vote.Vote}
use Rattle.tq_evidence.specs.Evidence.{is_write, has_server, is_server_of, covers, votes_rise, are_of_servers, has_writes, is_some_op}
use Rattle.tq_txn_states.specs.declared.{told.NodeTold.NodeTold, fault.TxnFault.TxnFault}
use Rattle.tq_txn_states.specs.declared.fault.TxnFault.TheVariants.{Memory, NotAVoter, NotMyVote, LostLock, VotesMissing}
use Rattle.tq_txn_states.specs.Open.{OpenView, put, with_first_changed}
use Rattle.tq_shape.specs.Journal.{refuse, refuse_for}

-- a transaction that takes no more operations, and the votes that it was told, ascending by server
pub record VotingView : Type 0 where
  pub txn : OpenView
  pub votes : List Vote

-- the transaction as it closes
abbrev pub voting_of : OpenView → VotingView
voting_of old = record { txn = old; votes = [] }

-- the writes of the operations, by file
abbrev pub writes_in : List Op → List Op
writes_in ops = filter is_write ops

abbrev pub write_in : Op → Write
write_in op = record { file = op.file; version = op.version; content = op.content }

-- the grant at the place is the server's
abbrev pub is_granter_at : List Grant → ℕ → ℕ → Bool
is_granter_at grants server place = option_map_or (λ grant. grant.server == server) (slice_get grants place) false

-- what the transaction writes at a server
abbrev pub writes_at : List Op → ℕ → List Write
writes_at ops server = map write_in (filter (λ op. has_server op server) (writes_in ops))

-- all that the operations write, they write at the server
abbrev pub writes_all_at : List Op → ℕ → Bool
writes_all_at ops server = list_all (λ op. not (is_write op) || has_server op server) ops

-- the work that a voter is asked for its vote
abbrev pub prepare_work : OpenView → ℕ → WorkAsk
prepare_work old server = Prepare old.txn (writes_at old.ops server)

-- the ask for a voter's vote
abbrev pub prepare_ask : OpenView → ℕ → NodeAsk
prepare_ask old server = Work (Prepare old.txn (writes_at old.ops server))

-- an ask that is kept has all that the transaction writes
abbrev pub HasWhole : OpenView → Option NodeAsk → Type 0
HasWhole old None = Unit {0}
HasWhole old (Some ask) = ask ≡ Work (Prepare old.txn (map write_in (writes_in old.ops)))

abbrev pub ask_fault : OpenView → ℕ → Option TxnFault
ask_fault old server = refuse (not (is_server_of old.ops server)) NotAVoter None

-- where the fault is memory refused, the server is a voter
abbrev pub IsOfVoter : OpenView → ℕ → TxnFault → Type 0
IsOfVoter old server fault = fault ≡ Memory → ask_fault old server ≡ None

-- the ask is for a vote for this transaction
abbrev pub is_prepare_of : ℕ → NodeAsk → Bool
is_prepare_of txn (Work (Prepare voter asked)) = voter == txn
is_prepare_of txn ask = false

-- the vote that an answer tells of: a vote for this transaction
abbrev pub voted_by : ℕ → ℕ → ℕ → NodeAsk → NodeReply → Option Vote
voted_by txn server number (Work (Prepare voter asked)) (Yes held writes) =
    if voter == txn then Some (record { server = server; number = number; held = held; writes = writes }) else None
voted_by txn server number ask reply = None

abbrev pub vote_of : ℕ → NodeTold → Option Vote
vote_of txn told = voted_by txn told.server told.number told.ask told.reply

-- the vote covers each grant of its server that the operation rests on
abbrev pub covers_grant : Vote → List ℕ → Grant → Bool
covers_grant vote file grant = not (vote.server == grant.server) || covers file grant vote

abbrev pub covers_op : Vote → Op → Bool
covers_op vote op = list_all (covers_grant vote op.file) op.grants

-- the least file of which the vote does not cover a grant: the operations ascend by file
abbrev pub lost_file : List Op → Vote → Option (List ℕ)
lost_file ops vote = option_map (λ op. op.file) (find (λ op. not (covers_op vote op)) ops)

-- what a vote is refused for: other writes, or a lock that was lost
abbrev pub vote_refusal : List Op → Option Vote → Option TxnFault
vote_refusal ops None = Some NotMyVote
vote_refusal ops (Some vote) = refuse (not (has_writes (writes_in ops) vote)) NotMyVote (refuse_for (lost_file ops vote) LostLock None)

abbrev pub vote_fault : VotingView → NodeTold → Option TxnFault
vote_fault old told = refuse (not (is_server_of old.txn.ops told.server)) NotAVoter (vote_refusal old.txn.ops (vote_of old.txn.txn told))

-- a vote of the server is there
abbrev pub has_vote : List Vote → ℕ → Bool
has_vote votes server = list_any (λ vote. vote.server == server) votes

-- each server whose vote was there has a vote there still
abbrev pub KeepsVotes : List Vote → List Vote → Type 0
KeepsVotes before after = (server : ℕ) → has_vote before server ≡ true → has_vote after server ≡ true

abbrev pub is_of_server : ℕ → Vote → Bool
is_of_server server vote = vote.server == server

-- the votes with one more, in place of that of its server, or before those of greater servers
abbrev pub with_vote : Vote → List Vote → List Vote
with_vote vote votes =
    if has_vote votes vote.server then with_first_changed (is_of_server vote.server) (λ other. vote) votes
    else put (λ other. nat_lt vote.server other.server) vote votes

abbrev pub txn_after_vote : VotingView → Option Vote → VotingView
txn_after_vote old None = old
txn_after_vote old (Some vote) = record old { votes = with_vote vote old.votes }

abbrev pub vote_after : VotingView → NodeTold → VotingView
vote_after old told = txn_after_vote old (vote_of old.txn.txn told)

-- each voter has voted
abbrev pub has_votes : VotingView → Bool
has_votes old = list_all (has_vote old.votes) old.txn.voters

abbrev pub ready_fault : VotingView → Option TxnFault
ready_fault old = refuse (not (has_votes old)) VotesMissing None

-- the commit that the transaction asks for, from what it was told alone
abbrev pub evidence_of : VotingView → DeskAsk
evidence_of old = Commit old.txn.txn old.txn.ops old.votes

-- a vote is good evidence: of a voter, with the transaction's writes there, and it covers each grant of its server
pub record IsGoodVote (ops : List Op) (vote : Vote) : Type 0 where
  pub voter : is_server_of ops vote.server ≡ true
  pub covered : list_all (covers_op vote) ops ≡ true
  pub writes : has_writes (writes_in ops) vote ≡ true

-- what a transaction that gathers votes keeps beside: votes that are good evidence as far as they go
pub record IsVoting (old : VotingView) : Type 0 where
  pub some : is_some_op old.txn.ops ≡ true
  pub rise : votes_rise old.votes ≡ true
  pub voters : are_of_servers old.txn.ops old.votes ≡ true
  pub covered : list_all (λ vote. list_all (covers_op vote) old.txn.ops) old.votes ≡ true
  pub writes : list_all (has_writes (writes_in old.txn.ops)) old.votes ≡ true

-- the transaction afterwards: each vote is there still, there may be more, and all else is as it was
pub record IsVotedOn (old after : VotingView) : Type 0 where
  pub txn : after.txn ≡ old.txn
  pub votes : All (Contains after.votes) old.votes

-- ---- cited

-- the answer of a server that granted the transaction this lock on the file
abbrev pub grant_told : ℕ → List ℕ → Grant → NodeTold
grant_told txn file grant =
    record { server = grant.server; number = grant.number; ask = Work (Lock grant.mode txn file); reply = Granted grant.version grant.content }

-- the answers of the servers that granted the transaction these locks on the file
abbrev pub answers_of : ℕ → List ℕ → List Grant → List NodeTold
answers_of txn file grants = map (grant_told txn file) grants

-- the answer of a server that gave the transaction this vote, asked with these writes
abbrev pub vote_told : ℕ → Vote → List Write → NodeTold
vote_told txn vote asked =
    record { server = vote.server; number = vote.number; ask = Work (Prepare txn asked); reply = Yes vote.held vote.writes }

-- each grant of the operation was told
abbrev pub IsOpTold : ℕ → List NodeTold → Op → Type 0
IsOpTold txn told op = All (λ grant. Contains told (grant_told txn op.file grant)) op.grants

-- the vote was told
abbrev pub IsVoteTold : ℕ → List NodeTold → Vote → Type 0
IsVoteTold txn told vote = (asked : List Write) × Contains told (vote_told txn vote asked)

-- each grant and each vote of the evidence was told; only a commit has evidence
abbrev pub CitesOnly : List NodeTold → DeskAsk → Type 0
CitesOnly told (Commit txn ops votes) = All (IsOpTold txn told) ops × All (IsVoteTold txn told) votes
CitesOnly told Begin = Unit {0}
CitesOnly told (Resolve txn) = Unit {0}

-- the same of what a transaction keeps
abbrev pub KeepsOnly : List NodeTold → OpenView → Type 0
KeepsOnly told old = CitesOnly told (Commit old.txn old.ops [])

abbrev pub VotesOnly : List NodeTold → VotingView → Type 0
VotesOnly told old = CitesOnly told (evidence_of old)

-- afterwards it keeps only what it kept before, and what these answers tell
abbrev pub AddsOnly : List NodeTold → OpenView → OpenView → Type 0
AddsOnly answers old new = (told : List NodeTold) → KeepsOnly told old → KeepsOnly (told ++ answers) new

abbrev pub AddsVote : NodeTold → VotingView → VotingView → Type 0
AddsVote answer old new = (told : List NodeTold) → VotesOnly told old → VotesOnly (told ++ answer ∷ []) new

-- the vote that the answer tells of is taken, or else the transaction is as it was
pub record TakesVote (old : VotingView) (answer : NodeTold) (new : VotingView) (result : Result (Unit {0}) TxnFault) : Type 0 where
  pub succeeds : OnOk result (vote_fault old answer ≡ None)
  pub after : OnOk result (new ≡ vote_after old answer)
  pub cited : OnOk result (AddsVote answer old new)
  pub txn : new.txn ≡ old.txn
  pub kept : OnOk result (KeepsVotes old.votes new.votes)
  pub err : OnErr result (new ≡ old)
