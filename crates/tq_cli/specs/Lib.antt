pub mod Command
pub mod TqdWords
