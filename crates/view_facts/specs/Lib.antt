pub mod Contents
pub mod Texts
pub mod Options
pub mod Adding
pub mod Refusals
pub mod Kept
pub mod Stops
