pub mod Standing
pub mod Journaled
pub mod Runs
pub mod Worlds
pub mod Committed
pub mod Told
pub mod Contents
pub mod Legal
