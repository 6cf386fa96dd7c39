pub mod Dialogue
pub mod Lines
pub mod Told
pub mod Commits
pub mod Script
