pub mod Gathered
pub mod Shapes
pub mod ReadBack
pub mod Laws
