pub mod Lines
pub mod Values
pub mod Nodes
pub mod Form
pub mod Sound
