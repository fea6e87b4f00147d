pub mod RowEnds
mod EntryRows
mod Names
mod Removal
pub mod TableSteps
