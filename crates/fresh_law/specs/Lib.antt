pub mod Checkpoint
pub mod Report
pub mod Law
pub mod Site
pub mod Facts
pub mod Says
