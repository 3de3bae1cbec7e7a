pub mod Safe
pub mod Exported
pub mod Filled
pub mod Done
pub mod Faults
pub mod Stopping
pub mod Texts
pub mod Parts
