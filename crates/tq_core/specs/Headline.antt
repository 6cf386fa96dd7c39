-- Committed reads: what the commits in the desk's journal read and wrote. What a Choose is answered, as a relation on
-- the costs and marks that the view's journal leaves. The headline: what holds of a world after any list of steps.
use Rattle.std.specs.Prelude.{reverse, ⊤, ◌≡◌, List, [], ◌∷◌, Result, IfOk, if◌then◌else◌}
use Rattle.tq_desk.specs.DeskJournal.{commits, AreNumbered}
use Rattle.tq_tables.specs.{Journals.JournalsView, Tables.{TablesView, tables_of}}
use Rattle.tq_live.specs.{Live.{Live, IsChoice, IsFirstChoice}, declared.purpose.Purpose.Purpose}
use Rattle.tq_live.specs.declared.view.{ViewReply.TheVariants.{Chosen, Refused}, ViewRefusal.TheVariants.Blocked}
use Rattle.tq_live.specs.declared.choice.Choice.TheVariants as choices
use Rattle.tq_live.specs.declared.view.ViewAsk.TheVariants as asks
use Rattle.tq_core.specs.declared.answer.{Answer.Answer, Reply.Reply, Step.Step, Refusal.Refusal}
use Rattle.tq_core.specs.{World.view_at, Steps.{answer, is_memory, world_after}}
use Rattle.tq_core.specs.declared.answer.Reply.TheVariants as replies
use Rattle.tq_core.specs.declared.answer.Step.TheVariants as steps

-- In each commit, in the order of the desk's journal: a read of a file has the content that the last commit before it
-- which writes the file wrote, empty where none does, and as version the number of commits before it that write the file;
-- a write of a file has the next version. (The desk's words read the newest entry first.)
abbrev pub HasCommittedReads : JournalsView → Type 0
HasCommittedReads journals = AreNumbered (commits (reverse journals.desk))

-- ---- offered

-- a quorum is handed out for the purpose: of the quorums whose servers are all marked up it is the first of least cost for it,
-- with that cost; or it is refused with a blocker, all marked down: then no quorum is up
abbrev pub IsOffer : Live → Purpose → Reply → Type 0
IsOffer live purpose (replies.View (Chosen quorum cost)) =
    IsChoice live purpose (choices.Quorum quorum cost) × IsFirstChoice live purpose (choices.Quorum quorum cost)
IsOffer live purpose (replies.View (Refused (Blocked blocked))) =
    IsChoice live purpose (choices.Blocked blocked) × IsFirstChoice live purpose (choices.Blocked blocked)
IsOffer live purpose other = ⊥

-- the answer to a Choose is an offer for its purpose
abbrev pub OffersBest : JournalsView → Step → Answer → Type 0
OffersBest world (steps.View (asks.Choose purpose)) answered = IsOffer (view_at world.levels world.view) purpose answered.reply
OffersBest world step answered = ⊤

-- ---- headline

-- each Choose that was answered, in its turn, was handed out the best quorum for its purpose, or refused with a blocker
abbrev pub AreOffered : JournalsView → List Step → List (Result Answer Refusal) → Type 0
AreOffered world [] [] = Unit {0}
AreOffered world (step ∷ steps) (result ∷ results) =
    IfOk result (λ answered. OffersBest world step answered) × AreOffered (if is_memory result then world else world_after world step) steps results
AreOffered world steps results = ⊥

-- the tables are those of the raw records, of the costs and marks and of the desk's log; a Choose for either
-- purpose is answered with the best quorum for it that is up, and refused with a blocker where there is none; and each
-- committed read is of the file's last committed write
pub record Headline (world : JournalsView) (tables : TablesView) : Type 0 where
  pub rows : tables ≡ tables_of world
  pub choice : (purpose : Purpose) → OffersBest world (steps.View (asks.Choose purpose)) (answer world (steps.View (asks.Choose purpose)))
  pub reads : HasCommittedReads world
