pub mod Kept
pub mod Counting
pub mod RowLaws
pub mod Restood
pub mod Noted
mod Placed
pub mod Stood
pub mod Written
pub mod Held
pub mod Settled
pub mod Again
pub mod Equal
