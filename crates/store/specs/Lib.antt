pub mod Flat
pub mod Images
pub mod Memory
pub mod Stores
