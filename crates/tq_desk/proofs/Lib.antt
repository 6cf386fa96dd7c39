pub mod DecisionLog
pub mod NewFiles
pub mod Shown
pub mod DeskFinal
