pub mod States
pub mod MarkLaws
pub mod Marks
pub mod Payloads
pub mod Runs
pub mod Buffers
pub mod Walks
pub mod Laws
