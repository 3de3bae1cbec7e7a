pub mod WayLooks
pub mod Climbing
pub mod FirstUnreached
pub mod ByDirectories
