-- What a transaction has of what was told, as more is told. What a transaction knows, as more is told; and what the
-- desk is asked of it.
use Rattle.std.proofs.Common.{◌≡◌, List, [], ◌∷◌, ◌++◌, Option, Some, None, Ok, refl, sym, ap, ◌∙◌, subst, ℕ, Result, Err, append_assoc, append-nil}
use Rattle.std.proofs.lemmas.List.Elements.{Contains-append_left, Contains-append_right, Contains-push, All-nil, All-append, All-push, All-weaker, All-contains, All-contains_itself, filter_map-append}
use Rattle.std.specs.{List.{Contains, All}, Option.IfSome}
use Rattle.tq_desk.specs.declared.ask.DeskAsk.{DeskAsk}
use Rattle.tq_txn_states.specs.{declared.told.DeskTold.DeskTold, Ended.{EndedView, verdict_in, verdict_by}}
use Rattle.tq_txn_states.specs.Voting.{VotingView, grant_told, vote_told, IsOpTold, IsVoteTold, CitesOnly, KeepsOnly, VotesOnly}
use Rattle.tq_txn_states.specs.{declared.told.NodeTold.NodeTold, Open.{OpenView, IsTouched}}
use Rattle.tq_txn.{specs.declared.{asker.Exchange.Exchange, txn.Txn.Txn}, proofs.LineLaws.further}
use Rattle.tq_txn.specs.Dialogue.{Dialogue, Follows, desk_exchange, node_exchange}
use Rattle.tq_txn.specs.Told.{Grown, IsEndTold, EndsAsTold, IsAnswered, answer_in, answers_in, AreTold, IsOpenIn, Knows, CitesTold, CitesSince}
use Rattle.tq_txn.specs.declared.asker.Exchange.TheVariants as exchanges
use Rattle.tq_txn.specs.declared.txn.Txn.TheVariants as states
use Rattle.tq_asks.specs.declared.ask.NodeAsk.{NodeAsk}
use Rattle.tq_shape.specs.declared.fault.AskFault.{AskFault}
use Rattle.tq_shape.specs.declared.fault.AskFault.TheVariants as ask_faults
use Rattle.tq_evidence.specs.declared.{grant.Grant.Grant, op.Op.Op, vote.Vote.Vote}

pub grown_along : {A : Type 0} (line : Dialogue A) (old new : List Exchange) (end : Option A) → Follows line old new end → Grown old new
grown_along line old new None follows = (follows.0, follows.1)
grown_along line old new (Some end) follows = (follows.0, follows.1)

-- ---- how a transaction ended

module _ (ask : DeskAsk) (told : DeskTold) (asks : told.ask ≡ ask) (old mid new : List Exchange) (asked : mid ≡ old ++ desk_exchange ask (Ok told)) (more : Grown mid new) where
  end_told : (ended : EndedView) → (verdict_in ended.txn told ≡ Some ended.verdict) × (ended.cite ≡ told.number) → (later : List Exchange) × (new ≡ old ++ later) × IsEndTold later ended
  end_told ended is =
      let entry : Exchange = exchanges.Desk ask (Ok (record { number = told.number; reply = told.reply })) in
      let cited : Exchange = exchanges.Desk ask (Ok (record { number = ended.cite; reply = told.reply })) in
      let same : entry ≡ cited = λ i. exchanges.Desk ask (Ok (record { number = sym is.1 i; reply = told.reply })) in
      let verdict : verdict_by ended.txn ask told.reply ≡ Some ended.verdict = ap (λ a. verdict_by ended.txn a told.reply) (sym asks) ∙ is.0 in
      let here : Contains (entry ∷ [] ++ more.0) entry = Contains-append_left (entry ∷ []) more.0 entry (Contains-push [] entry) in
      (entry ∷ [] ++ more.0, further old mid new (entry ∷ []) more.0 asked more.1, (ask, told.reply, verdict, subst (Contains (entry ∷ [] ++ more.0)) same here))

  -- the desk told it, and then it may have been told to the servers
  pub ends_as_told : (before after : Txn) → IsAnswered before told after → EndsAsTold before old new after
  ends_as_told (states.Ended before) after is = is
  ends_as_told (states.Open before) (states.Ended ended) is = end_told ended is
  ends_as_told (states.Voting before) (states.Ended ended) is = end_told ended is
  ends_as_told (states.Open before) (states.Open after) is = tt
  ends_as_told (states.Open before) (states.Voting after) is = tt
  ends_as_told (states.Voting before) (states.Open after) is = tt
  ends_as_told (states.Voting before) (states.Voting after) is = tt

pub ends_unasked : (txn : Txn) (old new : List Exchange) → EndsAsTold txn old new txn
ends_unasked (states.Open before) old new = tt
ends_unasked (states.Voting before) old new = tt
ends_unasked (states.Ended before) old new = refl

-- the desk told it in a part of the line
pub ends_within : (before mid_before : VotingView) (after : Txn) (old first last new : List Exchange) → Grown old first → Grown last new → EndsAsTold (states.Voting mid_before) first last after → EndsAsTold (states.Voting before) old new after
ends_within before mid_before (states.Open after) old first last new earlier later is = tt
ends_within before mid_before (states.Voting after) old first last new earlier later is = tt
ends_within before mid_before (states.Ended ended) old first last new earlier later is =
    let entry : Exchange = exchanges.Desk is.2.0 (Ok (record { number = ended.cite; reply = is.2.1 })) in
    let more = is.0 ++ later.0 in (
      earlier.0 ++ more,
      further old first new earlier.0 more earlier.1 (further first last new is.0 later.0 is.1 later.1),
      (is.2.0, is.2.1, is.2.2, Contains-append_right earlier.0 more entry (Contains-append_left is.0 later.0 entry is.2.3)),
    )

-- what was told of it is told still
pub end_grown : (old new : List Exchange) → Grown old new → (ended : EndedView) → IsEndTold old ended → IsEndTold new ended
end_grown old new more ended is =
    let entry : Exchange = exchanges.Desk is.0 (Ok (record { number = ended.cite; reply = is.1 })) in
    (is.0, is.1, is.2, subst (λ (told : List Exchange). Contains told entry) (sym more.1) (Contains-append_left old more.0 entry is.3))

end_since : (old new : List Exchange) (ended : EndedView) → (more : List Exchange) × (new ≡ old ++ more) × IsEndTold more ended → IsEndTold new ended
end_since old new ended is =
    let entry : Exchange = exchanges.Desk is.2.0 (Ok (record { number = ended.cite; reply = is.2.1 })) in
    (is.2.0, is.2.1, is.2.2, subst (λ (told : List Exchange). Contains told entry) (sym is.1) (Contains-append_right old is.0 entry is.2.3))

-- ---- known laws

-- ---- of more answers

op_within : (txn : ℕ) (few many : List NodeTold) → All (Contains many) few → (op : Op) → IsOpTold txn few op → IsOpTold txn many op
op_within txn few many within op is =
    All-weaker (λ (grant : Grant). Contains few (grant_told txn op.file grant)) (λ (grant : Grant). Contains many (grant_told txn op.file grant))
    (λ grant here. All-contains (Contains many) few (grant_told txn op.file grant) within here) op.grants is

vote_within : (txn : ℕ) (few many : List NodeTold) → All (Contains many) few → (vote : Vote) → IsVoteTold txn few vote → IsVoteTold txn many vote
vote_within txn few many within vote is = (is.0, All-contains (Contains many) few (vote_told txn vote is.0) within is.1)

pub keeps_within : (few many : List NodeTold) → All (Contains many) few → (old : OpenView) → KeepsOnly few old → KeepsOnly many old
keeps_within few many within old is =
    (All-weaker (IsOpTold old.txn few) (IsOpTold old.txn many) (op_within old.txn few many within) old.ops is.0, All-nil (IsVoteTold old.txn many))

pub votes_within : (few many : List NodeTold) → All (Contains many) few → (old : VotingView) → VotesOnly few old → VotesOnly many old
votes_within few many within old is = (
  All-weaker (IsOpTold old.txn.txn few) (IsOpTold old.txn.txn many) (op_within old.txn.txn few many within) old.txn.ops is.0,
  All-weaker (IsVoteTold old.txn.txn few) (IsVoteTold old.txn.txn many) (vote_within old.txn.txn few many within) old.votes is.1,
)

all_left : (few more : List NodeTold) → All (Contains (few ++ more)) few
all_left few more = All-weaker (Contains few) (Contains (few ++ more)) (λ answer here. Contains-append_left few more answer here) few (All-contains_itself few)

-- ---- as more is told

pub answers_grow : (old new : List Exchange) → Grown old new → All (Contains (answers_in new)) (answers_in old)
answers_grow old new more =
    let P : List NodeTold → Type 0 = λ xs. All (Contains xs) (answers_in old) in
    subst P (sym (ap answers_in more.1 ∙ filter_map-append answer_in old more.0)) (all_left (answers_in old) (answers_in more.0))

pub told_grow : (old new : List Exchange) (answers : List NodeTold) → Grown old new → AreTold old answers → AreTold new answers
told_grow old new answers more are =
    All-weaker (Contains (answers_in old)) (Contains (answers_in new)) (λ answer here. All-contains (Contains (answers_in new)) (answers_in old) answer (answers_grow old new more) here) answers are

pub knows_grow : (old new : List Exchange) → Grown old new → (txn : Txn) → Knows old txn → Knows new txn
knows_grow old new more (states.Open open_txn) is = keeps_within (answers_in old) (answers_in new) (answers_grow old new more) open_txn is
knows_grow old new more (states.Voting voting) is = votes_within (answers_in old) (answers_in new) (answers_grow old new more) voting is
knows_grow old new more (states.Ended ended) is = end_grown old new more ended is

-- an open transaction that began just now, and one beside which others were asked
pub open_fresh : (levels : ℕ) (told : List Exchange) (txn : OpenView) → txn.levels ≡ levels → KeepsOnly [] txn → IsOpenIn levels told txn
open_fresh levels told txn tree none = (tree, keeps_within [] (answers_in told) (All-nil (Contains (answers_in told))) txn none)

pub open_beside : (levels : ℕ) (line : Dialogue (Unit {0})) (old new : List Exchange) (txn : Option OpenView) → Follows line old new (Some tt) → IfSome txn (IsOpenIn levels old) → IfSome txn (IsOpenIn levels new)
open_beside levels line old new None asks is = tt
open_beside levels line old new (Some txn) asks is = (is.0, knows_grow old new (grown_along line old new (Some tt) asks) (states.Open txn) is.1)

-- the answer of a server is told last
pub answers_more : (server : ℕ) (ask : NodeAsk) (told : NodeTold) (old new : List Exchange) → new ≡ old ++ node_exchange server ask (Ok told) → told.server ≡ server → told.ask ≡ ask → answers_in new ≡ answers_in old ++ told ∷ []
answers_more server ask told old new grown servers asks =
    let same : told ≡ record { server = server; number = told.number; ask = ask; reply = told.reply } = λ i. record { server = servers i; number = told.number; ask = asks i; reply = told.reply } in
    ap answers_in grown ∙ filter_map-append answer_in old (node_exchange server ask (Ok told)) ∙ ap (λ t. answers_in old ++ t ∷ []) (sym same)

pub told_last : (server : ℕ) (ask : NodeAsk) (told : NodeTold) (old new : List Exchange) → new ≡ old ++ node_exchange server ask (Ok told) → told.server ≡ server → told.ask ≡ ask → Contains (answers_in new) told
told_last server ask told old new grown servers asks =
    let P : List NodeTold → Type 0 = λ xs. Contains xs told in
    subst P (sym (answers_more server ask told old new grown servers asks)) (Contains-push (answers_in old) told)

pub told_same : (old new : List Exchange) (before after : List NodeTold) → after ≡ before → Grown old new → AreTold old before → AreTold new after
told_same old new before after same more are = subst (AreTold new) (sym same) (told_grow old new before more are)

pub told_push : (old new : List Exchange) (before mid after : List NodeTold) (answer : NodeTold) → mid ≡ before → after ≡ mid ++ answer ∷ [] → Grown old new → Contains (answers_in new) answer → AreTold old before → AreTold new after
told_push old new before mid after answer same pushed more here are =
    subst (AreTold new) (sym pushed) (All-push (Contains (answers_in new)) mid answer (told_same old new before mid same more are) here)

-- ---- operations

pub knows_touched : (old new : List Exchange) (before after : OpenView) → Grown old new → IsTouched before after → KeepsOnly (answers_in old) before → KeepsOnly (answers_in new) after
knows_touched old new before after more touched is =
    let P : ℕ → Type 0 = λ txn. All (IsOpTold txn (answers_in new)) after.ops × All (IsVoteTold txn (answers_in new)) [] in
    let Q : List Op → Type 0 = λ ops. All (IsOpTold before.txn (answers_in new)) ops × All (IsVoteTold before.txn (answers_in new)) [] in
    subst P (sym touched.txn) (subst Q (sym touched.ops) (keeps_within (answers_in old) (answers_in new) (answers_grow old new more) before is))

-- an operation of answers that were told
pub knows_taken : (told all answers : List NodeTold) (before after : OpenView) → All (Contains all) told → All (Contains all) answers → ((given : List NodeTold) → KeepsOnly given before → KeepsOnly (given ++ answers) after) → KeepsOnly told before → KeepsOnly all after
knows_taken told all answers before after first more step is =
    keeps_within (told ++ answers) all (All-append (Contains all) told answers first more) after (step told is)

-- ---- votes

-- what any answer leaves of what was known
pub knows_voted : (given : List NodeTold) (told : NodeTold) (before after : VotingView) → after ≡ before → VotesOnly given before → VotesOnly (given ++ told ∷ []) after
knows_voted given told before after same is =
    subst (VotesOnly (given ++ told ∷ [])) (sym same) (votes_within given (given ++ told ∷ []) (all_left given (told ∷ [])) before is)

pub knows_answered : (old told : List Exchange) (before after : Txn) (answer : DeskTold) → IsAnswered before answer after → EndsAsTold before old told after → Knows told before → Knows told after
knows_answered old told (states.Ended before) after answer same ends is = subst (Knows told) (sym same) is
knows_answered old told (states.Open before) (states.Ended after) answer same ends is = end_since old told after ends
knows_answered old told (states.Voting before) (states.Ended after) answer same ends is = end_since old told after ends
knows_answered old told (states.Open before) (states.Open after) answer same ends is = subst (Knows told) (sym same) is
knows_answered old told (states.Open before) (states.Voting after) answer same ends is = subst (Knows told) (sym same) is
knows_answered old told (states.Voting before) (states.Open after) answer same ends is = subst (Knows told) (sym same) is
knows_answered old told (states.Voting before) (states.Voting after) answer same ends is = subst (Knows told) (sym same) is

-- ---- what the desk is asked

cites_append : (before first more : List Exchange) → CitesTold before first → CitesTold (before ++ first) more → CitesTold before (first ++ more)
cites_append before [] more none rest = let P : List Exchange → Type 0 = λ told. CitesTold told more in subst P (append-nil before) rest
cites_append before (entry ∷ first) more some rest =
    let P : List Exchange → Type 0 = λ told. CitesTold told more in
    (some.0, cites_append (before ++ entry ∷ []) first more some.1 (subst P (sym (append_assoc before (entry ∷ []) first)) rest))

pub cites_on : (old mid new : List Exchange) → CitesSince old mid → CitesSince mid new → CitesSince old new
cites_on old mid new first rest =
    let P : List Exchange → Type 0 = λ told. CitesTold told rest.0 in
    (first.0 ++ rest.0, further old mid new first.0 rest.0 first.1 rest.1, cites_append old first.0 rest.0 first.2 (subst P first.1 rest.2))

-- one ask of the desk
cites_exchange : (old : List Exchange) (ask : DeskAsk) (result : Result DeskTold AskFault) → CitesOnly (answers_in old) ask → CitesTold old (desk_exchange ask result)
cites_exchange old ask (Ok told) is = (is, tt)
cites_exchange old ask (Err ask_faults.Memory) is = tt
cites_exchange old ask (Err (ask_faults.JournalFull part)) is = (is, tt)
cites_exchange old ask (Err (ask_faults.Unfounded part number)) is = (is, tt)

pub cites_ask : (old new : List Exchange) (ask : DeskAsk) (result : Result DeskTold AskFault) → new ≡ old ++ desk_exchange ask result → CitesOnly (answers_in old) ask → CitesSince old new
cites_ask old new ask result grown is = (desk_exchange ask result, grown, cites_exchange old ask result is)
