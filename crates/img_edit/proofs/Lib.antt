pub mod Written
pub mod Sealed
pub mod Others
pub mod Nodes
pub mod Reading
