pub mod Checkpoints
pub mod Images
pub use Rattle.img_plan.specs.Plans
pub use Rattle.img_edit.specs.Edits
