pub mod Open
pub mod Voting
pub mod Ended
