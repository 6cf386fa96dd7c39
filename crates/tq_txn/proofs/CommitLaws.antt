-- How a commit ends. What becomes of a transaction as the desk and others are told of it, part by part.
use Rattle.std.proofs.Common.{◌≡◌, ℕ, true, false, not, cond, List, ◌∷◌, Option, Some, None, Result, Ok, Err, refl, sym, subst, ◌∙◌, ◌++◌, is_some, [], ap, append-nil}
use Rattle.tq_shape.specs.{Tree.Server, declared.fault.AskFault.AskFault}
use Rattle.tq_coterie.specs.Coterie.{numbers_of}
use Rattle.tq_desk.specs.declared.ask.DeskAsk.{DeskAsk}
use Rattle.tq_txn.specs.declared.{asker.Exchange.Exchange, fault.LineFault.LineFault, txn.Txn.Txn}
use Rattle.tq_txn.specs.Commits.{prepares_line, commit_answer, txn_after_answer, ready_line, decide_line, commit_end, decide_and_end_line, commit_line, txn_after_resolve}
use Rattle.tq_txn.specs.Dialogue.{LineEnd, Follows, line_done, ended_by, desk_line, desk_exchange}
use Rattle.tq_txn.specs.Lines.{answers, prepare_line, ending_line}
use Rattle.tq_txn.specs.Told.{Grown, IsStill, levels_of, number_of, EndsWhereTold, IsAnswered, IsEnding, IsKnown, is_ended}
use Rattle.tq_txn.proofs.LineLaws.{follows_end, follows_answer, follows_on, follows_off}
use Rattle.tq_txn.proofs.EndLaws.{Untold, ends_after, ends_answered, ends_before, ends_nothing, ends_refused, resolved_answered, resolved_ends, resolved_still, gathered_on, still_same}
use Rattle.tq_txn.proofs.KnownLaws.{knows_answered, knows_grow, ends_as_told, ends_unasked, ends_within}
use Rattle.tq_txn_states.specs.{declared.fault.TxnFault.TxnFault, declared.told.DeskTold.DeskTold, Open.OpenView}
use Rattle.tq_txn_states.specs.Ended.{EndedView, verdict_in}
use Rattle.tq_txn_states.specs.Voting.{VotingView, has_votes, ready_fault, evidence_of, IsVotedOn}
use Rattle.tq_txn_states.specs.declared.fault.TxnFault.TheVariants as txn_faults
use Rattle.tq_txn.specs.declared.txn.Txn.TheVariants as states

module _ (voters rest : List ℕ) (server : ℕ) (old new : VotingView) (is : voters ≡ server ∷ rest) where
  pub prepares_off : (fault : LineFault) (told after : List Exchange) → Follows (prepare_line old server) told after (ended_by (Err fault) new) → Follows (prepares_line voters old) told after (ended_by (Err fault) new)
  prepares_off fault told after first =
      rw is (follows_off (prepare_line old server) (λ s. s) (λ all s. prepares_line rest s) fault new new told after refl first)

  pub prepares_on : (told mid after : List Exchange) (end : Option (LineEnd (Unit {0}) VotingView)) → Follows (prepare_line old server) told mid (Some (record { answer = Ok tt; after = new })) → Follows (prepares_line rest new) mid after end → Follows (prepares_line voters old) told after end
  prepares_on told mid after end first more =
      rw is (follows_on (prepare_line old server) (λ s. s) (λ all s. prepares_line rest s) tt new told mid after end first more)

decision_follows : (old : VotingView) (told : DeskTold) (answer : Result ℕ LineFault) (after : Txn) (exchanges : List Exchange) → answer ≡ commit_answer told.reply → after ≡ txn_after_answer old told → Follows (answers (commit_answer told.reply) (txn_after_answer old told)) exchanges exchanges (ended_by answer after)
decision_follows old told answer after exchanges is leaves =
    let P : Result ℕ LineFault → Type 0 = λ a. Follows (answers (commit_answer told.reply) (txn_after_answer old told)) exchanges exchanges (ended_by a (txn_after_answer old told)) in
    let Q : Txn → Type 0 = λ t. Follows (answers (commit_answer told.reply) (txn_after_answer old told)) exchanges exchanges (ended_by answer t) in
    subst Q (sym leaves) (subst P (sym is) (follows_answer (commit_answer told.reply) (txn_after_answer old told) exchanges))

module _ (old : VotingView) (ask : DeskAsk) (asks : ask ≡ evidence_of old) where
  asked : (exchanges after : List Exchange) (end : Option (LineEnd DeskTold (Unit {0}))) → Follows (desk_line ask) exchanges after end → Follows (desk_line (evidence_of old)) exchanges after end
  asked exchanges after end first = let P : DeskAsk → Type 0 = λ a. Follows (desk_line a) exchanges after end in subst P asks first

  pub ready_on : (told : DeskTold) (answer : Result ℕ LineFault) (left : Txn) (exchanges after : List Exchange) → Follows (desk_line ask) exchanges after (Some (record { answer = Ok told; after = tt })) → answer ≡ commit_answer told.reply → left ≡ txn_after_answer old told → Follows (ready_line old) exchanges after (ended_by answer left)
  ready_on told answer left exchanges after first is leaves =
      follows_on (desk_line (evidence_of old)) (λ none. states.Voting old) (λ t none. answers (commit_answer t.reply) (txn_after_answer old t)) told tt exchanges after after (ended_by answer left)
      (asked exchanges after (Some (record { answer = Ok told; after = tt })) first) (decision_follows old told answer left after is leaves)

pub missing : (old : VotingView) (fault : TxnFault) → ready_fault old ≡ Some fault → (has_votes old ≡ false) × (fault ≡ txn_faults.VotesMissing)
missing old fault is =
    elim (has_votes old) as (λ b. cond (not b) (Some txn_faults.VotesMissing) None ≡ Some fault → (b ≡ false) × (fault ≡ txn_faults.VotesMissing)) [
      | true ↦ λ e. cc
      | false ↦ λ e. (refl, cc)
    ] is

pub there : (old : VotingView) → ready_fault old ≡ None → has_votes old ≡ true
there old is =
    elim (has_votes old) as (λ b. cond (not b) (Some txn_faults.VotesMissing) None ≡ None → b ≡ true) [
      | true ↦ λ e. refl
      | false ↦ λ e. cc
    ] is

pub decide_ready : (old ready : VotingView) (answer : Result ℕ LineFault) (left : Txn) (exchanges after : List Exchange) → ready_fault old ≡ None → ready ≡ old → Follows (ready_line ready) exchanges after (ended_by answer left) → Follows (decide_line old) exchanges after (ended_by answer left)
decide_ready old ready answer left exchanges after none same follows =
    let all : has_votes old ≡ true = there old none in
    let P : VotingView → Type 0 = λ v. Follows (ready_line v) exchanges after (ended_by answer left) in
    rw all (subst P same follows)

-- ---- the ending after a commit, and the whole line

module _ (serial : ℕ) (txn : Txn) (ended : EndedView) (is : txn ≡ states.Ended ended) (ids : List Server) (numbers : numbers_of ids ≡ ended.servers) (told after : List Exchange) where
  pub end_off : (fault : LineFault) → Follows (ending_line ended (numbers_of ids)) told after (ended_by (Err fault) tt) → Follows (commit_end serial txn) told after (ended_by (Err fault) (states.Ended ended))
  end_off fault first =
      let P : List ℕ → Type 0 = λ ns. Follows (ending_line ended ns) told after (ended_by (Err fault) tt) in
      let Q : Txn → Type 0 = λ t. Follows (commit_end serial t) told after (ended_by (Err fault) (states.Ended ended)) in
      subst Q (sym is) (follows_off (ending_line ended ended.servers) (λ none. states.Ended ended) (λ all none. line_done serial (states.Ended ended)) fault tt (states.Ended ended) told after refl (subst P numbers first))

  pub end_on : Follows (ending_line ended (numbers_of ids)) told after (Some (record { answer = Ok tt; after = tt })) → Follows (commit_end serial txn) told after (Some (record { answer = Ok serial; after = states.Ended ended }))
  end_on first =
      let P : List ℕ → Type 0 = λ ns. Follows (ending_line ended ns) told after (Some (record { answer = Ok tt; after = tt })) in
      let Q : Txn → Type 0 = λ t. Follows (commit_end serial t) told after (Some (record { answer = Ok serial; after = states.Ended ended })) in
      subst Q (sym is) (follows_on (ending_line ended ended.servers) (λ none. states.Ended ended) (λ all none. line_done serial (states.Ended ended)) tt tt told after after (Some (record { answer = Ok serial; after = states.Ended ended })) (subst P numbers first) (follows_end _ after))

module _ (old : VotingView) (answer : Result ℕ LineFault) (left : Txn) (told mid : List Exchange) (first : Follows (decide_line old) told mid (ended_by answer left)) where
  pub decide_off : (fault : LineFault) → answer ≡ Err fault → Follows (decide_and_end_line old) told mid (ended_by (Err fault) left)
  decide_off fault is =
      let P : Result ℕ LineFault → Type 0 = λ a. Follows (decide_line old) told mid (ended_by a left) in
      follows_off (decide_line old) (λ t. t) (λ serial t. commit_end serial t) fault left left told mid refl (subst P is first)

  pub decide_on : (serial : ℕ) (after : List Exchange) (end : Option (LineEnd ℕ Txn)) → answer ≡ Ok serial → Follows (commit_end serial left) mid after end → Follows (decide_and_end_line old) told after end
  decide_on serial after end is more =
      let P : Result ℕ LineFault → Type 0 = λ a. Follows (decide_line old) told mid (ended_by a left) in
      follows_on (decide_line old) (λ t. t) (λ s t. commit_end s t) serial left told mid after end (subst P is first) more

module _ (old new : VotingView) (told mid : List Exchange) where
  pub commit_off : (fault : LineFault) → Follows (prepares_line old.txn.voters old) told mid (ended_by (Err fault) new) → Follows (commit_line old) told mid (ended_by (Err fault) (states.Voting new))
  commit_off fault first =
      follows_off (prepares_line old.txn.voters old) (λ s. states.Voting s) (λ all s. decide_and_end_line s) fault new (states.Voting new) told mid refl first

  pub commit_on : (after : List Exchange) (end : Option (LineEnd ℕ Txn)) → Follows (prepares_line old.txn.voters old) told mid (Some (record { answer = Ok tt; after = new })) → Follows (decide_and_end_line new) mid after end → Follows (commit_line old) told after end
  commit_on after end first more =
      follows_on (prepares_line old.txn.voters old) (λ s. states.Voting s) (λ all s. decide_and_end_line s) tt new told mid after end first more

-- ---- ending laws

pub levels_still : (old new : Txn) → IsStill old new → levels_of new ≡ levels_of old
levels_still (states.Open old) (states.Open new) is = ap (λ (o : OpenView). o.levels) is
levels_still (states.Open old) (states.Voting new) is = ap (λ (o : OpenView). o.levels) is
levels_still (states.Open old) (states.Ended new) is = is.levels
levels_still (states.Voting old) (states.Open new) is = absurd is
levels_still (states.Voting old) (states.Voting new) is = ap (λ (o : OpenView). o.levels) is.txn
levels_still (states.Voting old) (states.Ended new) is = is.levels
levels_still (states.Ended old) new is = ap levels_of is

-- it is as it was: nothing was told
pub ending_none : (old new : Txn) (told : List Exchange) → new ≡ old → IsEnding old told told new
ending_none old new told is = subst (IsEnding old told told) (sym is) record {
  still = still_same old old refl;
  verdict = ends_unasked old told told;
  ends = ends_nothing (number_of old) told old;
  knows = λ known. known;
}

-- or the desk did not take the ask
pub ending_refused : (old new : Txn) (ask : DeskAsk) (fault : AskFault) (told later : List Exchange) → new ≡ old → later ≡ told ++ desk_exchange ask (Err fault) → IsEnding old told later new
ending_refused old new ask fault told later is grown = subst (IsEnding old told later) (sym is) record {
  still = still_same old old refl;
  verdict = ends_unasked old told later;
  ends = ends_refused (number_of old) ask fault told later old grown;
  knows = knows_grow told later (desk_exchange ask (Err fault), grown) old;
}

pub untold_none : (old : Txn) (told : List Exchange) → Untold (number_of old) told told
untold_none old told = ([], sym (append-nil told), refl)

-- the desk answered, and then others were asked
module _ (old after : Txn) (ask : DeskAsk) (answer : DeskTold) (told mid later : List Exchange) where
  pub ending_answered : answer.ask ≡ ask → mid ≡ told ++ desk_exchange ask (Ok answer) → after ≡ txn_after_resolve old answer → Untold (number_of old) mid later → IsEnding old told later after
  ending_answered asked grown is untold =
      let answered = subst (IsAnswered old answer) (sym is) (resolved_answered old answer) in
      let ends : is_some (verdict_in (number_of old) answer) ≡ true → is_ended after ≡ true = λ some. ap is_ended is ∙ resolved_ends old answer some in
      let more : Grown mid later = (untold.0, untold.1) in
      let verdict = ends_as_told ask answer asked told mid later grown more old after answered in
      record {
        still = subst (IsStill old) (sym is) (resolved_still old answer);
        verdict = verdict;
        ends = ends_before (number_of old) told mid later after (ends_answered (number_of old) ask answer told mid after asked grown ends) untold;
        knows = λ known. knows_answered told later old after answer answered verdict (knows_grow mid later more old (knows_grow told mid (desk_exchange ask (Ok answer), grown) old known));
      }

-- votes came before
pub ending_voted : (old voted : VotingView) (after : Txn) (told mid later : List Exchange) → IsVotedOn old voted → IsKnown states.Voting told mid old voted → Untold old.txn.txn told mid → IsEnding (states.Voting voted) mid later after → IsEnding (states.Voting old) told later after
ending_voted old voted after told mid later votes known untold rest = record {
  still = gathered_on old voted after votes rest.still;
  verdict = ends_within old voted after told mid later later (untold.0, untold.1) ([], sym (append-nil later)) rest.verdict;
  ends = ends_after old.txn.txn told mid later after untold (subst (λ (o : OpenView). EndsWhereTold o.txn mid later after) votes.txn rest.ends);
  knows = λ is. rest.knows (known is);
}

-- others were asked behind it
pub ending_behind : (old : VotingView) (after new : Txn) (told mid later : List Exchange) → new ≡ after → Untold old.txn.txn mid later → IsEnding (states.Voting old) told mid after → IsEnding (states.Voting old) told later new
ending_behind old after new told mid later is untold first =
    let more : Grown mid later = (untold.0, untold.1) in
    subst (IsEnding (states.Voting old) told later) (sym is) record {
      still = first.still;
      verdict = ends_within old old after told told mid later ([], sym (append-nil told)) more first.verdict;
      ends = ends_before old.txn.txn told mid later after first.ends untold;
      knows = λ known. knows_grow mid later more after (first.knows known);
    }
