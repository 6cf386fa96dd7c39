pub use Rattle.tq_evidence.specs.Evidence
pub mod Ballots
pub mod DeskStep
pub mod DeskJournal
pub mod DecisionLog
pub mod DeskPlans
