use Rattle.std.proofs.Common.{◌≡◌, false, List, Err, refl, ap, ◌∙◌, sym, subst}
use Rattle.tq_txn_states.specs.{Voting.{VotesOnly, VotingView, IsVotedOn, has_vote}, declared.told.NodeTold.NodeTold}
use Rattle.tq_txn.specs.declared.txn.Txn.TheVariants as states
use Rattle.tq_txn.specs.{Dialogue.{Follows, ended_by, node_exchange}, Lines.vote_answer, Told.{Knows, answers_in}}
use Rattle.tq_txn.proofs.{KnownLaws.{answers_more, knows_grow}, EndLaws.voted_on_same, LineLaws.{told_node, vote_asked}}
use Rattle.tq_txn.proofs.endings.prepare_at.Goals as goal

pub returns-in-Ok-node-clause-asks : goal.returns-in-Ok-node-clause-asks
returns-in-Ok-node-clause-asks g c =
    let new = g.A.Asker.told c.node.new.self in
    let P : VotingView → Type 0 = λ v. Follows (vote_answer v c.in-Ok-node.told) new new (ended_by c.take_vote.result c.take_vote.new.voting) in
    vote_asked c.args.voting.now c.take_vote.new.voting c.args.server.number c.in-Ok.ask c.in-Ok-node.told c.take_vote.result (g.A.Asker.told c.args.asker.now) new
    (sym c.has_vote.ensures ∙ c.if-has_vote.false) c.in-Ok.ensures.succeeds c.in-Ok.ensures.value
    (told_node c.args.server.number c.in-Ok.ask c.in-Ok-node.told (g.A.Asker.told c.args.asker.now) new c.in-Ok-node.ensures.exchanges c.in-Ok-node.ensures.same.0 c.in-Ok-node.ensures.same.1)
    (subst P c.room_for_votes.ensures (c.take_vote.ensures.asks new))

pub returns-then-has_vote-clause-kept : goal.returns-then-has_vote-clause-kept
returns-then-has_vote-clause-kept g c = voted_on_same c.args.voting.now c.args.voting.now refl

pub returns-in-Err-clause-kept : goal.returns-in-Err-clause-kept
returns-in-Err-clause-kept g c = voted_on_same c.args.voting.now c.args.voting.now refl

pub returns-in_err-room_for_votes-clause-kept : goal.returns-in_err-room_for_votes-clause-kept
returns-in_err-room_for_votes-clause-kept g c = voted_on_same c.args.voting.now c.room_for_votes.new.self c.room_for_votes.ensures

pub returns-in-Err-node-clause-kept : goal.returns-in-Err-node-clause-kept
returns-in-Err-node-clause-kept g c = voted_on_same c.args.voting.now c.room_for_votes.new.self c.room_for_votes.ensures

pub returns-in-Ok-node-clause-kept : goal.returns-in-Ok-node-clause-kept
returns-in-Ok-node-clause-kept g c =
    let is = c.room_for_votes.ensures in
    let none : has_vote c.room_for_votes.new.self.votes c.in-Ok-node.told.server ≡ false =
    ap (has_vote c.room_for_votes.new.self.votes) c.in-Ok-node.ensures.same.0 ∙ ap (λ (v : VotingView). has_vote v.votes c.args.server.number) is ∙ sym c.has_vote.ensures ∙ c.if-has_vote.false in
    let P : VotingView → Type 0 = λ v. IsVotedOn v c.take_vote.new.voting in
    subst P is (c.take_vote.ensures.kept none)

pub returns-in_err-room_for_votes-clause-knows : goal.returns-in_err-room_for_votes-clause-knows
returns-in_err-room_for_votes-clause-knows g c =
    let P : VotingView → Type 0 = λ v. Knows (g.A.Asker.told c.args.asker.now) (states.Voting v) in
    λ is. subst P (sym c.room_for_votes.ensures) is

pub returns-in-Err-node-clause-knows : goal.returns-in-Err-node-clause-knows
returns-in-Err-node-clause-knows g c =
    let now = g.A.Asker.told c.args.asker.now in
    let new = g.A.Asker.told c.node.new.self in
    let P : VotingView → Type 0 = λ v. Knows new (states.Voting v) in
    λ is. subst P (sym c.room_for_votes.ensures) (knows_grow now new (node_exchange c.args.server.number c.in-Ok.ask (Err c.in-Err-node.fault), c.in-Err-node.ensures.exchanges) (states.Voting c.args.voting.now) is)

pub returns-in-Ok-node-clause-knows : goal.returns-in-Ok-node-clause-knows
returns-in-Ok-node-clause-knows g c =
    let old = g.A.Asker.told c.args.asker.now in
    let new = g.A.Asker.told c.node.new.self in
    let P : List NodeTold → Type 0 = λ xs. VotesOnly xs c.take_vote.new.voting in
    let Q : VotingView → Type 0 = λ v. VotesOnly (answers_in old) v in
    λ is. subst P (sym (answers_more c.args.server.number c.in-Ok.ask c.in-Ok-node.told old new c.in-Ok-node.ensures.exchanges c.in-Ok-node.ensures.same.0 c.in-Ok-node.ensures.same.1)) (c.take_vote.ensures.cited (answers_in old) (subst Q (sym c.room_for_votes.ensures) is))
