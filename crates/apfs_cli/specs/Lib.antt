pub mod Cache
pub mod Rows
pub mod Formatted
pub use Rattle.apfs_model.specs.Counts
pub use Rattle.apfs_model.specs.Source
pub use Rattle.apfs_model.specs.Sink
