pub mod Covered
pub mod Tally
pub mod Lone
