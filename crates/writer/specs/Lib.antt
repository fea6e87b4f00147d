pub mod Fields
pub mod Calls
pub mod Whole
