pub mod LineLaws
pub mod LockingLaws
pub mod EndLaws
pub mod KnownLaws
pub mod Deskless
pub mod CommitLaws
pub mod Following
