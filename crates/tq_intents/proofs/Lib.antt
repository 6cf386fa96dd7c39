pub mod DeadRecords
pub mod CopiesPush
pub mod Votes
pub mod KeptLocks
