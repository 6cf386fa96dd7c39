pub mod Padded
pub mod Installed
pub mod Spelled
pub mod Placed
