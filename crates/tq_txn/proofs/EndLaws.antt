-- How an abort ends. A transaction that gathers votes loses none of them. What the desk's answer makes of a
-- transaction, and where it was told how the transaction ended.
use Rattle.std.proofs.Common.{◌≡◌, ℕ, List, ◌++◌, Option, Some, Result, Ok, Err, refl, sym, subst, ◌==◌, arith, suc, Bool, true, false, cond, [], ◌∷◌, None, nat_lt, ◌∙◌, ◌||◌, is_some, ap, append-nil}
use Rattle.std.proofs.lemmas.List.Elements.{All-nil, All-cons, All-weaker, All-contains, All-contains_itself}
use Rattle.std.proofs.{Math.Bool.or-false, lemmas.Bool.eq-eqb, lemmas.List.Folds.list_any-append}
use Rattle.std.specs.List.{All, Contains, list_any}
use Rattle.tq_shape.specs.{Tree.Server, declared.fault.AskFault.AskFault}
use Rattle.tq_coterie.specs.Coterie.{numbers_of}
use Rattle.tq_desk.specs.declared.ask.DeskAsk.TheVariants as asks
use Rattle.tq_txn_states.specs.{declared.told.DeskTold.DeskTold, declared.told.NodeTold.NodeTold, Open.{put, OpenView}}
use Rattle.tq_txn_states.specs.Ended.{EndedView, verdict_in, verdict_by, commit_verdict}
use Rattle.tq_txn_states.specs.Voting.{VotingView, IsVotedOn, has_vote, with_vote, txn_after_vote, voted_by, vote_after, evidence_of}
use Rattle.tq_txn.specs.declared.{asker.Exchange.Exchange, fault.LineFault.LineFault, txn.Txn.Txn}
use Rattle.tq_txn.specs.{Commits.{txn_after_resolve, ending_of, abort_end, abort_line, resolved_by}, Lines.ending_line}
use Rattle.tq_txn.specs.Dialogue.{LineEnd, Follows, line_done, ended_by, fault_of_ask, desk_exchange, desk_line}
use Rattle.tq_txn.specs.Told.{number_of, IsEndOf, IsGathered, IsStill, IsAnswered, is_ended, tells_end, EndsWhereTold}
use Rattle.tq_txn.proofs.LineLaws.{follows_end, follows_on, follows_off, told_desk, refused_desk, further}
use Rattle.tq_txn.specs.declared.txn.Txn.TheVariants as states
use Rattle.tq_evidence.specs.declared.vote.Vote.{Vote}
use Rattle.tq_asks.specs.declared.ask.{NodeAsk.NodeAsk, NodeAsk.TheVariants.Work, NodeReply.NodeReply, Verdict.Verdict}
use Rattle.tq_asks.specs.declared.ask.{NodeReply.TheVariants.Yes, WorkAsk.TheVariants.Prepare}
use Rattle.tq_shape.specs.declared.fault.AskFault.TheVariants as ask_faults
use Rattle.tq_desk.specs.declared.ask.DeskAsk.{DeskAsk}

module _ (ended : EndedView) (ids : List Server) (numbers : numbers_of ids ≡ ended.servers) (told after : List Exchange) where
  pub aborted : (answer : Result (Unit {0}) LineFault) → Follows (ending_line ended (numbers_of ids)) told after (ended_by answer tt) → Follows (ending_of ended) told after (ended_by answer (states.Ended ended))
  aborted (Err fault) first =
      let P : List ℕ → Type 0 = λ ns. Follows (ending_line ended ns) told after (ended_by (Err fault) tt) in
      follows_off (ending_line ended ended.servers) (λ none. states.Ended ended) (λ all none. line_done tt (states.Ended ended)) fault tt (states.Ended ended) told after refl (subst P numbers first)
  aborted (Ok all) first =
      let P : List ℕ → Type 0 = λ ns. Follows (ending_line ended ns) told after (Some (record { answer = Ok all; after = tt })) in
      follows_on (ending_line ended ended.servers) (λ none. states.Ended ended) (λ each none. line_done tt (states.Ended ended)) all tt told after after (Some (record { answer = Ok all; after = states.Ended ended })) (subst P numbers first) (follows_end _ after)

-- the desk was asked: it did not take the ask, or told how the transaction ended
module _ (old : Txn) (number : ℕ) (is : number ≡ number_of old) (told after : List Exchange) where
  pub abort_off : (fault : AskFault) (line_fault : LineFault) → line_fault ≡ fault_of_ask fault → after ≡ told ++ desk_exchange (asks.Resolve number) (Err fault) → Follows (abort_line old) told after (ended_by (Err line_fault) old)
  abort_off fault line_fault faults_are grown =
      let P : LineFault → Type 0 = λ f. Follows (abort_line old) told after (ended_by (Err f) old) in
      let Q : ℕ → Type 0 = λ n. Follows (desk_line (asks.Resolve n)) told after (ended_by (Err (fault_of_ask fault)) tt) in
      subst P (sym faults_are)
      (follows_off (desk_line (asks.Resolve (number_of old))) (λ none. old) (λ answer none. abort_end answer.reply (txn_after_resolve old answer)) (fault_of_ask fault) tt old told after refl (subst Q is (refused_desk (asks.Resolve number) fault told after grown)))

  pub abort_on : (mid : List Exchange) (answer : DeskTold) (end : Option (LineEnd (Unit {0}) Txn)) → mid ≡ told ++ desk_exchange (asks.Resolve number) (Ok answer) → answer.ask ≡ asks.Resolve number
      → Follows (abort_end answer.reply (txn_after_resolve old answer)) mid after end → Follows (abort_line old) told after end
  abort_on mid answer end grown asked rest =
      let Q : ℕ → Type 0 = λ n. Follows (desk_line (asks.Resolve n)) told mid (Some (record { answer = Ok answer; after = tt })) in
      follows_on (desk_line (asks.Resolve (number_of old))) (λ none. old) (λ a none. abort_end a.reply (txn_after_resolve old a)) answer tt told mid after end (subst Q is (told_desk (asks.Resolve number) answer told mid grown asked)) rest

-- ---- kept votes

Contains-first : {X : Type 0} (x : X) (xs : List X) → Contains (x ∷ xs) x
Contains-first x xs = (0, omega arith, refl)

Contains-later : {X : Type 0} (y : X) (xs : List X) (x : X) → Contains xs x → Contains (y ∷ xs) x
Contains-later y xs x h = let lt = h.1 in (suc h.0, omega arith, h.2)

later_all : {X : Type 0} (y : X) (xs few : List X) → All (Contains xs) few → All (Contains (y ∷ xs)) few
later_all y xs few h = All-weaker (Contains xs) (Contains (y ∷ xs)) (Contains-later y xs) few h

put_keeps : (later : Vote → Bool) (vote : Vote) (votes : List Vote) → All (Contains (put later vote votes)) votes
put_keeps later vote [] = All-nil (Contains (vote ∷ []))
put_keeps later vote (first ∷ rest) =
    elim (later first) as (λ b. All (Contains (cond b (vote ∷ first ∷ rest) (first ∷ put later vote rest))) (first ∷ rest)) [
      | true ↦ later_all vote (first ∷ rest) (first ∷ rest) (All-contains_itself (first ∷ rest))
      | false ↦ All-cons (Contains (first ∷ put later vote rest)) first rest (Contains-first first (put later vote rest)) (later_all first (put later vote rest) rest (put_keeps later vote rest))
    ]

-- a vote of a server that has none yet
new_vote_keeps : (vote : Vote) (votes : List Vote) → has_vote votes vote.server ≡ false → All (Contains (with_vote vote votes)) votes
new_vote_keeps vote votes none = rw none (put_keeps (λ (other : Vote). nat_lt vote.server other.server) vote votes)

pub voted_on_same : (old new : VotingView) → new ≡ old → IsVotedOn old new
voted_on_same old new is = subst (IsVotedOn old) (sym is) (record { txn = refl; votes = All-contains_itself old.votes })

pub voted_on_on : (old mid new : VotingView) → IsVotedOn old mid → IsVotedOn mid new → IsVotedOn old new
voted_on_on old mid new first second = record {
  txn = second.txn ∙ first.txn;
  votes = All-weaker (Contains mid.votes) (Contains new.votes) (λ vote. All-contains (Contains new.votes) mid.votes vote second.votes) old.votes first.votes;
}

voted_on_by : (old : VotingView) (server number : ℕ) (ask : NodeAsk) (reply : NodeReply) → has_vote old.votes server ≡ false → IsVotedOn old (txn_after_vote old (voted_by old.txn.txn server number ask reply))
voted_on_by old server number (Work (Prepare voter asked)) (Yes held writes) none =
    let vote : Vote = record { server = server; number = number; held = held; writes = writes } in
    elim (voter == old.txn.txn) as (λ b. IsVotedOn old (txn_after_vote old (cond b (Some vote) None))) [
      | true ↦ record { txn = refl; votes = new_vote_keeps vote old.votes none }
      | false ↦ voted_on_same old old refl
    ]
voted_on_by old server number ask reply none = voted_on_same old old refl

-- the vote of a server that had none yet
pub voted_on_after : (old new : VotingView) (told : NodeTold) → new ≡ vote_after old told → has_vote old.votes told.server ≡ false → IsVotedOn old new
voted_on_after old new told is none = subst (IsVotedOn old) (sym is) (voted_on_by old told.server told.number told.ask told.reply none)

-- ---- the transaction in any state

pub gathered_on : (old mid : VotingView) (txn : Txn) → IsVotedOn old mid → IsGathered mid txn → IsGathered old txn
gathered_on old mid (states.Open new) first second = second
gathered_on old mid (states.Voting new) first second = voted_on_on old mid new first second
gathered_on old mid (states.Ended new) first second = let P : OpenView → Type 0 = λ txn. IsEndOf txn new in subst P first.txn second

still_itself : (txn : Txn) → IsStill txn txn
still_itself (states.Open old) = refl
still_itself (states.Voting old) = voted_on_same old old refl
still_itself (states.Ended old) = refl

pub still_same : (old new : Txn) → new ≡ old → IsStill old new
still_same old new is = subst (IsStill old) (sym is) (still_itself old)

-- ---- end laws

-- ---- the verdict in an answer

pub commit_told : (old : VotingView) (told : DeskTold) → told.ask ≡ evidence_of old → verdict_in old.txn.txn told ≡ commit_verdict old.votes told.reply
commit_told old told asked =
    ap (λ ask. verdict_by old.txn.txn ask told.reply) asked ∙ ap (λ b. cond b (commit_verdict old.votes told.reply) None) (eq-eqb old.txn.txn old.txn.txn refl)

-- ---- the transaction after it

open_answered : (old : OpenView) (told : DeskTold) (verdict : Option Verdict) → verdict_in old.txn told ≡ verdict → IsAnswered (states.Open old) told (resolved_by (states.Open old) old told.number verdict)
open_answered old told None is = refl
open_answered old told (Some verdict) is = (is, refl)

voting_answered : (old : VotingView) (told : DeskTold) (verdict : Option Verdict) → verdict_in old.txn.txn told ≡ verdict → IsAnswered (states.Voting old) told (resolved_by (states.Voting old) old.txn told.number verdict)
voting_answered old told None is = refl
voting_answered old told (Some verdict) is = (is, refl)

pub resolved_answered : (txn : Txn) (told : DeskTold) → IsAnswered txn told (txn_after_resolve txn told)
resolved_answered (states.Open old) told = open_answered old told (verdict_in old.txn told) refl
resolved_answered (states.Voting old) told = voting_answered old told (verdict_in old.txn.txn told) refl
resolved_answered (states.Ended old) told = refl

open_still : (old : OpenView) (cite : ℕ) (verdict : Option Verdict) → IsStill (states.Open old) (resolved_by (states.Open old) old cite verdict)
open_still old cite None = refl
open_still old cite (Some verdict) = record { levels = refl; txn = refl; servers = refl }

voting_still : (old : VotingView) (cite : ℕ) (verdict : Option Verdict) → IsStill (states.Voting old) (resolved_by (states.Voting old) old.txn cite verdict)
voting_still old cite None = voted_on_same old old refl
voting_still old cite (Some verdict) = record { levels = refl; txn = refl; servers = refl }

pub resolved_still : (txn : Txn) (told : DeskTold) → IsStill txn (txn_after_resolve txn told)
resolved_still (states.Open old) told = open_still old told.number (verdict_in old.txn told)
resolved_still (states.Voting old) told = voting_still old told.number (verdict_in old.txn.txn told)
resolved_still (states.Ended old) told = refl

by_ends : (before : Txn) (old : OpenView) (cite : ℕ) (verdict : Option Verdict) → is_some verdict ≡ true → is_ended (resolved_by before old cite verdict) ≡ true
by_ends before old cite None some = cc
by_ends before old cite (Some verdict) some = refl

pub resolved_ends : (txn : Txn) (told : DeskTold) → is_some (verdict_in (number_of txn) told) ≡ true → is_ended (txn_after_resolve txn told) ≡ true
resolved_ends (states.Open old) told some = by_ends (states.Open old) old told.number (verdict_in old.txn told) some
resolved_ends (states.Voting old) told some = by_ends (states.Voting old) old.txn told.number (verdict_in old.txn.txn told) some
resolved_ends (states.Ended old) told some = refl

-- ---- where it was told

pub ends_nothing : (number : ℕ) (old : List Exchange) (after : Txn) → EndsWhereTold number old old after
ends_nothing number old after = ([], sym (append-nil old), λ told. cc)

pub ends_refused : (number : ℕ) (ask : DeskAsk) (fault : AskFault) (old new : List Exchange) (after : Txn) → new ≡ old ++ desk_exchange ask (Err fault) → EndsWhereTold number old new after
ends_refused number ask ask_faults.Memory old new after grown = ([], grown, λ told. cc)
ends_refused number ask (ask_faults.JournalFull part) old new after grown = (desk_exchange ask (Err (ask_faults.JournalFull part)), grown, λ told. cc)
ends_refused number ask (ask_faults.Unfounded part n) old new after grown = (desk_exchange ask (Err (ask_faults.Unfounded part n)), grown, λ told. cc)

-- nothing was told of how the transaction of this number ended
abbrev pub Untold : ℕ → List Exchange → List Exchange → Type 0
Untold number old new = (more : List Exchange) × (new ≡ old ++ more) × (list_any (tells_end number) more ≡ false)

module _ (number : ℕ) (old mid new : List Exchange) (after : Txn) where
  pub ends_after : Untold number old mid → EndsWhereTold number mid new after → EndsWhereTold number old new after
  ends_after first rest =
      let same = list_any-append (tells_end number) first.0 rest.0 ∙ ap (λ (told : Bool). told || list_any (tells_end number) rest.0) first.2 in
      (first.0 ++ rest.0, further old mid new first.0 rest.0 first.1 rest.1, λ told. rest.2 (sym same ∙ told))

  pub ends_before : EndsWhereTold number old mid after → Untold number mid new → EndsWhereTold number old new after
  ends_before first rest =
      let same = list_any-append (tells_end number) first.0 rest.0 ∙ ap (λ (told : Bool). list_any (tells_end number) first.0 || told) rest.2 ∙ or-false (list_any (tells_end number) first.0) in
      (first.0 ++ rest.0, further old mid new first.0 rest.0 first.1 rest.1, λ told. first.2 (sym same ∙ told))

-- the desk's answer
pub ends_answered : (number : ℕ) (ask : DeskAsk) (told : DeskTold) (old new : List Exchange) (after : Txn) → told.ask ≡ ask → new ≡ old ++ desk_exchange ask (Ok told)
    → (is_some (verdict_in number told) ≡ true → is_ended after ≡ true) → EndsWhereTold number old new after
ends_answered number ask told old new after asked grown ends =
    let same : is_some (verdict_in number told) ≡ list_any (tells_end number) (desk_exchange ask (Ok told)) =
    ap (λ a. is_some (verdict_by number a told.reply)) asked ∙ sym (or-false (is_some (verdict_by number ask told.reply))) in
    (desk_exchange ask (Ok told), grown, λ some. ends (same ∙ some))
