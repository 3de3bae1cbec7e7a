pub mod Lookups
pub mod Parts
pub mod Fellows
