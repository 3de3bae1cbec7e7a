pub mod Files
pub mod Nodes
pub mod Packing
pub mod Plans
pub mod Records
pub mod Samples
