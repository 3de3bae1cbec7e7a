pub mod Claimed
pub mod InOrder
pub mod Agreed
pub mod Kept
pub mod Pooled
