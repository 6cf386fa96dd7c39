pub mod HeldTable
pub mod Merging
pub mod StableSort
