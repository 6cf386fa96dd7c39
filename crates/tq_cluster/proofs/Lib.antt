pub mod Closing
pub mod Seen
pub mod Pulled
pub mod Callers
pub mod Came
pub mod InTurn
pub mod Queued
