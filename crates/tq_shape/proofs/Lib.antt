pub mod Tree
pub mod Joined
pub mod Places
pub mod SetBits
pub mod SetWords
pub mod Options
mod Digits
