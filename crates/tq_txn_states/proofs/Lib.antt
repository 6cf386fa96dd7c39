pub mod Puts
pub mod Searched
pub mod GoodGrants
pub mod GoodOps
pub mod GoodVotes
pub mod GoodEvidence
pub mod CitedLaws
