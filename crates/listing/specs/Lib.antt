pub mod Text
pub mod Lists
pub mod Laws
