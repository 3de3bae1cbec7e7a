pub mod Fronts
pub mod Ranges
pub mod Keeps
pub mod Puts
