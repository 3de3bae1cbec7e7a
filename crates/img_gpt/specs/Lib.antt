pub mod Slices
pub mod Whole
pub mod Table
pub mod Partition
pub mod Laws
pub mod Reads
