pub mod Inside
pub mod Steps
pub mod Applies
pub mod Read
pub mod Laws
