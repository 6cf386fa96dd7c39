use Rattle.std.{proofs.Common.{◌≡◌, ◌∙◌, ℕ, Some, List, true, sym, ap, subst}, specs.Option.option_copied}
use Rattle.tq_evidence.specs.{declared.op.Op.Op, Evidence.{is_server_of, are_writes_at}}
use Rattle.tq_txn_states.{specs.Voting.{VotingView, lost_file, vote_of, writes_in}, proofs.GoodVotes.none_lost}
use Rattle.tq_txn_states.proofs.voting.Voting.cast_by.Goals as goal

pub returns-clause-good : goal.returns-clause-good
returns-clause-good c =
    let vote = c.in-Some-cast_in.cast.vote in
    let ops = c.ops-ops.ensures.value in
    let voter : is_server_of c.self.inside.txn.ops c.args.told.server ≡ true = ap (λ (v : VotingView). is_server_of v.txn.ops c.args.told.server) c.self.view_is ∙ sym c.in-Some.ensures in
    let none = ap (λ (list : List Op). lost_file list vote) (sym ops) ∙ sym c.lost_file.ensures ∙ ap option_copied c.in_default-lost_file.is in
    let writes = (λ i. are_writes_at vote.server (sym c.as_slice.ensures i) (writes_in (sym ops i))) ∙ sym c.are_writes_at.ensures ∙ c.if-not-are_writes_at.false in
    rw (← c.self.view_is) record { voter = rw c.in-Some-cast_in.ensures.server voter; covered = none_lost c.self.inside.txn.ops vote none; writes = writes }

pub returns-clause-vote : goal.returns-clause-vote
returns-clause-vote c =
    let txn : c.txn.result ≡ c.args.self.now.txn.txn = rw (← c.self.view_is) c.txn.ensures in
    subst (λ (n : ℕ). vote_of n c.args.told ≡ Some c.in-Some-cast_in.cast.vote) txn (sym c.in-Some-cast_in.ensures.value)
