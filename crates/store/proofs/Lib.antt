pub mod MemoryChanges
pub mod ImageLaws
pub mod StoreOutcomes
