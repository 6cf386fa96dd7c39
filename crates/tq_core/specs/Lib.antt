pub use Rattle.tq_shape.specs.Journal
pub use Rattle.tq_tables.specs.Journals
pub mod Service
pub mod World
pub mod Founded
pub mod Steps
pub mod Headline
