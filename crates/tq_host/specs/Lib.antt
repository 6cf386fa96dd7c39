pub mod Lines
pub mod Told
pub mod Served
pub mod Hosted
