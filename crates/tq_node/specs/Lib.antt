pub mod Records
pub mod Node
pub mod Cases
pub mod NodeJournal
pub mod NodeChanges
pub mod NodePlans
pub mod Telling
pub mod NodeLaws
