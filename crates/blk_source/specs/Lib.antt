pub mod Memory
pub mod Edge
pub use Rattle.apfs_model.specs.Counts
pub use Rattle.apfs_model.specs.Source
pub use Rattle.apfs_model.specs.Sink
