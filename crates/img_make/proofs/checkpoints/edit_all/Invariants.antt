use Rattle.std.proofs.Common.{◌≡◌, ◌≢◌, ℕ, All}
use Rattle.apfs_model.specs.Blocks.{block_of}
use Rattle.img_make.proofs.checkpoints.edit_all.Given as goal

abbrev pub invariant-loop-block : goal.invariant-loop-block
invariant-loop-block l = (k : ℕ) → All (λ edit. edit.0 ≢ k) l.edits → block_of 4096 l.image k ≡ block_of 4096 l.initial.image k
