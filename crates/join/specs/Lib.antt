pub mod Lies
pub mod Parts
pub mod Lengths
pub mod Orders
pub mod Plans
pub mod Joins
pub mod Laws
