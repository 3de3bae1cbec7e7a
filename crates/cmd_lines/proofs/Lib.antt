pub mod Puts
pub mod Orders
