pub mod Groups
pub mod Notes
pub mod Tallies
pub mod Known
