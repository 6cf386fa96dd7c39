pub mod Sets
pub mod Members
pub mod Parts
pub mod Marked
