pub mod Recorded
pub mod Known
pub mod TxnAsked
pub mod Answer
pub use Rattle.tq_live.specs.Live
pub use Rattle.tq_live.specs.View
