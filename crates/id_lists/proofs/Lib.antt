pub mod InOrder
pub mod Repeats
