-- A transaction in any of its states. What the answers that were told tie down of a transaction: how it ended, what it
-- knows, and what its commit cites.
use Rattle.std.specs.Prelude.{◌≡◌, ℕ, Bool, true, false, is_some, List, [], ◌∷◌, ◌++◌, Option, Some, None, Ok}
use Rattle.std.specs.List.{All, Contains, filter_map, list_any}
use Rattle.tq_txn.specs.declared.{txn.Txn.Txn, asker.Exchange.Exchange}
use Rattle.tq_txn.specs.declared.txn.Txn.TheVariants as states
use Rattle.tq_txn_states.specs.{Ended.{EndedView, decide_ask, verdict_by, verdict_in}, Open.OpenView}
use Rattle.tq_txn_states.specs.Voting.{VotingView, IsVotedOn, CitesOnly, KeepsOnly, VotesOnly, answers_of}
use Rattle.tq_txn_states.specs.declared.told.{DeskTold.DeskTold, NodeTold.NodeTold}
use Rattle.tq_asks.specs.declared.ask.NodeAsk.{NodeAsk}
use Rattle.tq_desk.specs.declared.ask.{DeskAsk.DeskAsk, DeskReply.DeskReply}
use Rattle.tq_evidence.specs.declared.grant.Grant.{Grant}
use Rattle.tq_txn.specs.declared.asker.Exchange.TheVariants as exchanges

-- the number that the desk gave it
abbrev pub number_of : Txn → ℕ
number_of (states.Open old) = old.txn
number_of (states.Voting old) = old.txn.txn
number_of (states.Ended old) = old.txn

-- the levels of the tree whose servers the transaction asks
abbrev pub levels_of : Txn → ℕ
levels_of (states.Open old) = old.levels
levels_of (states.Voting old) = old.txn.levels
levels_of (states.Ended old) = old.levels

-- the transaction ended with what it had read and written, and tells the servers that granted it a lock
pub record IsEndOf (old : OpenView) (ended : EndedView) : Type 0 where
  pub levels : ended.levels ≡ old.levels
  pub txn : ended.txn ≡ old.txn
  pub servers : ended.servers ≡ old.touched

-- the transaction in a later state, with what it had read and written
abbrev pub IsOf : OpenView → Txn → Type 0
IsOf old (states.Open new) = new ≡ old
IsOf old (states.Voting new) = new.txn ≡ old
IsOf old (states.Ended new) = IsEndOf old new

-- the transaction still gathers votes, and each vote gathered is there still, or it ended
abbrev pub IsGathered : VotingView → Txn → Type 0
IsGathered old (states.Open new) = ⊥
IsGathered old (states.Voting new) = IsVotedOn old new
IsGathered old (states.Ended new) = IsEndOf old.txn new

-- the same transaction, in the same state or in a later one
abbrev pub IsStill : Txn → Txn → Type 0
IsStill (states.Open old) new = IsOf old new
IsStill (states.Voting old) new = IsGathered old new
IsStill (states.Ended old) new = new ≡ states.Ended old

-- ---- told

-- what was told grew
abbrev pub Grown : List Exchange → List Exchange → Type 0
Grown old new = (more : List Exchange) × (new ≡ old ++ more)

-- ---- how a transaction ended

-- the desk told the verdict, in the entry that the transaction cites
abbrev pub IsEndTold : List Exchange → EndedView → Type 0
IsEndTold told ended =
    (ask : DeskAsk) × (reply : DeskReply) × (verdict_by ended.txn ask reply ≡ Some ended.verdict) × Contains told (exchanges.Desk ask (Ok (record { number = ended.cite; reply = reply })))

-- the ask tells a verdict that the desk told
abbrev pub IsVerdictTold : List Exchange → NodeAsk → Type 0
IsVerdictTold told ask = (ended : EndedView) × (ask ≡ decide_ask ended) × IsEndTold told ended

-- a transaction that has ended had ended so before, or the desk told its verdict since
abbrev pub EndsAsTold : Txn → List Exchange → List Exchange → Txn → Type 0
EndsAsTold (states.Ended before) old new after = after ≡ states.Ended before
EndsAsTold before old new (states.Ended ended) = (more : List Exchange) × (new ≡ old ++ more) × IsEndTold more ended
EndsAsTold before old new after = Unit {0}

-- after this answer of the desk the transaction has ended as it tells, or is as it was
abbrev pub IsAnswered : Txn → DeskTold → Txn → Type 0
IsAnswered (states.Ended before) told after = after ≡ states.Ended before
IsAnswered before told (states.Ended ended) = (verdict_in ended.txn told ≡ Some ended.verdict) × (ended.cite ≡ told.number)
IsAnswered before told after = after ≡ before

abbrev pub is_ended : Txn → Bool
is_ended (states.Ended ended) = true
is_ended txn = false

-- the desk told there how the transaction of this number ended
abbrev pub tells_end : ℕ → Exchange → Bool
tells_end number (exchanges.Desk ask (Ok answered)) = is_some (verdict_by number ask answered.reply)
tells_end number exchange = false

-- where the desk told since how the transaction of this number ended, it has ended
abbrev pub EndsWhereTold : ℕ → List Exchange → List Exchange → Txn → Type 0
EndsWhereTold number old new after = (more : List Exchange) × (new ≡ old ++ more) × (list_any (tells_end number) more ≡ true → is_ended after ≡ true)

-- ---- what a transaction knows

-- the answer that a server gave, as a transaction takes it
abbrev pub answer_in : Exchange → Option NodeTold
answer_in (exchanges.Node server ask (Ok answered)) = Some (record { server = server; number = answered.number; ask = ask; reply = answered.reply })
answer_in exchange = None

-- the servers' answers among what was told, in their order
abbrev pub answers_in : List Exchange → List NodeTold
answers_in told = filter_map answer_in told

-- each of the answers was told
abbrev pub AreTold : List Exchange → List NodeTold → Type 0
AreTold told answers = All (Contains (answers_in told)) answers

-- the answers of the servers that granted the transaction these locks on the file were told
abbrev pub AreHeard : ℕ → List ℕ → List Exchange → List Grant → Type 0
AreHeard txn file told grants = AreTold told (answers_of txn file grants)

-- each grant and each vote that the transaction keeps was told, and its verdict
abbrev pub Knows : List Exchange → Txn → Type 0
Knows told (states.Open old) = KeepsOnly (answers_in told) old
Knows told (states.Voting old) = VotesOnly (answers_in told) old
Knows told (states.Ended old) = IsEndTold told old

-- the open transaction is of a tree of so many levels, and knows what it keeps
abbrev pub IsOpenIn : ℕ → List Exchange → OpenView → Type 0
IsOpenIn levels told txn = (txn.levels ≡ levels) × Knows told (states.Open txn)

-- of a transaction in this state all that it keeps is told also afterwards
abbrev pub IsKnown : {S : Type 0} → (S → Txn) → List Exchange → List Exchange → S → S → Type 0
IsKnown state told later old new = Knows told (state old) → Knows later (state new)

-- between these asks the transaction became this: with what it had, in its state or a later one; ended, if at all, as the
-- desk told, and where the desk told it; and it knows what it knew
pub record IsEnding (old : Txn) (told later : List Exchange) (new : Txn) : Type 0 where
  pub still : IsStill old new
  pub verdict : EndsAsTold old told later new
  pub ends : EndsWhereTold (number_of old) told later new
  pub knows : Knows told old → Knows later new

-- ---- what the desk is asked

-- an ask of the desk cites only what was told
abbrev pub IsFounded : List Exchange → Exchange → Type 0
IsFounded told (exchanges.Desk ask answer) = CitesOnly (answers_in told) ask
IsFounded told exchange = Unit {0}

-- each ask of the desk cites only what was told before it
abbrev pub CitesTold : List Exchange → List Exchange → Type 0
CitesTold before [] = Unit {0}
CitesTold before (exchange ∷ more) = IsFounded before exchange × CitesTold (before ++ exchange ∷ []) more

abbrev pub CitesSince : List Exchange → List Exchange → Type 0
CitesSince old new = (more : List Exchange) × (new ≡ old ++ more) × CitesTold old more
