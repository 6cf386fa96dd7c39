pub mod Word
pub mod Line
pub mod ClientLine
pub mod Scripts
pub mod Gathering
