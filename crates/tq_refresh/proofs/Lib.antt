pub mod Marked
pub mod Walked
