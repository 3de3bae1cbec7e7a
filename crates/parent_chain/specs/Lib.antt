pub mod Ways
pub mod Climbs
pub mod Directories
