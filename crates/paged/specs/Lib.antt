pub mod Paged
pub mod Pages
pub mod State
