pub mod Next
pub mod Member
pub mod Plain
pub mod Readers
