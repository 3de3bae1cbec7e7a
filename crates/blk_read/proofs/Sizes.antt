-- What an accepted block size is.
use Rattle.std.proofs.Common.{◌≡◌, ℕ, ◌%◌, ◌≤◌, true, arith}
use Rattle.std.proofs.lemmas.Grind.{common_steps}
use Rattle.obj_base.specs.BlockSize.{is_accepted}

-- a block of an accepted size can be read in one call, and has a sum
pub accepted_size : (size : ℕ) → is_accepted size ≡ true → (4096 ≤ size) × (size ≤ 65536) × (size % 4 ≡ 0)
accepted_size size accepted = (grind (arith, common_steps, accepted), grind (arith, common_steps, accepted), grind (arith, common_steps, accepted))
