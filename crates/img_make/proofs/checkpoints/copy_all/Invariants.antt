use Rattle.std.proofs.Common.{◌≡◌, ◌≢◌, ℕ, All}
use Rattle.apfs_model.specs.Blocks.{block_of}
use Rattle.img_make.proofs.checkpoints.copy_all.Given as goal

abbrev pub invariant-loop-from : goal.invariant-loop-from
invariant-loop-from l = (k : ℕ) → All (λ copy. copy.1 ≢ k) l.copies → block_of 4096 l.image k ≡ block_of 4096 l.initial.image k
