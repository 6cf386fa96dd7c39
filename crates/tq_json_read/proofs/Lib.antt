pub mod Places
pub mod Held
mod Rows
mod Planned
