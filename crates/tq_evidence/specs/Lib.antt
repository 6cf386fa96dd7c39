pub mod Evidence
pub mod Shareable
