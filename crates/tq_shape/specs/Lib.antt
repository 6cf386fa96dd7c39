pub mod Tree
pub mod Sides
pub mod Limits
pub mod Journal
pub mod ServerSet
pub mod Agrees
pub mod Digits
