pub mod Session
pub mod Stream
pub mod Reading
pub mod Audit
pub mod Rehearsal
pub mod Threads
