mod StreamLaws
mod Pieces
mod SessionLaws
pub mod ReportLaws
