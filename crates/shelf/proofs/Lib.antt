pub mod CallPlans
pub mod Splices
mod CallSteps
mod EntryRecords
pub mod ListParts
pub mod Algebra
pub mod TableOperations
pub mod ShelfDifferences
pub mod EntryReading
pub mod ShelfChanges
pub mod AcceptedStreams
pub mod StretchJoins
pub mod SeriesInvariant
pub mod SettleSteps
pub mod SeriesSteps
pub mod CallRefusals
pub mod EntryLists
pub mod SeriesPromise
