use Rattle.std.proofs.Common.{sym, ◌∙◌}
use Rattle.tq_txn_states.proofs.GoodVotes.{placed, inserted}
use Rattle.tq_txn_states.proofs.votes.put_vote.Goals as goal

pub returns-then-stands_at : goal.returns-then-stands_at
returns-then-stands_at c =
    let point = rw c.as_slice.ensures.value at c.place_of_vote-place.ensures.place in
    let is = sym (rw c.as_slice-2.ensures.value at c.stands_at.ensures.value) ∙ c.if-stands_at.true in
    placed c.args.vote c.args.votes.now.items c.place_of_vote-place.result c.requires.rise point is

pub returns : goal.returns
returns c =
    let point = rw c.as_slice.ensures.value at c.place_of_vote-place.ensures.place in
    let within = rw c.as_slice.ensures.value at c.place_of_vote-place.ensures.within in
    let none = sym (rw c.as_slice-2.ensures.value at c.stands_at.ensures.value) ∙ c.if-stands_at.false in
    c.put_at.ensures.items ∙ inserted c.args.vote c.args.votes.now.items c.place_of_vote-place.result c.requires.rise within point none
