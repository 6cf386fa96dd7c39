pub mod Locking
pub mod Nodes
pub mod Desks
pub mod Views
pub mod Frame
pub mod Slots
