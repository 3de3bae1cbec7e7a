pub mod Numbers
pub mod Tallies
pub mod Pieces
pub mod Owing
pub mod Splits
