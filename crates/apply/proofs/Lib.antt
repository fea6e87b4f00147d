pub mod ImageChanges
pub mod RangeKinds
pub mod StepSeries
pub mod RangeParts
mod PartFacts
pub mod Readings
pub mod KeptPositions
pub mod Outcomes
pub mod StepImages
pub mod Spans
pub mod SoundRecords
pub mod StepStates
pub mod ApplyLaws
