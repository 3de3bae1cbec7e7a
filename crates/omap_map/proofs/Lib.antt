pub mod Lists
pub mod Laws
pub mod Splits
pub mod Examples
pub mod Orders
pub mod Kept
pub mod Objects
pub mod Loads
