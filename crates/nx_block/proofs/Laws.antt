-- What it means that a superblock is read.
use Rattle.std.proofs.Common.{◌≡◌, ℕ, true, List, length, Some, Ok, arith}
use Rattle.std.proofs.lemmas.Grind.{common_steps}
use Rattle.obj_base.specs.BlockSize.{is_accepted}
use Rattle.nx_block.specs.Super.{block_size_of}
use Rattle.nx_block.specs.Read.{size_of, read_of}

-- a block size that is given is the stored one, and accepted
pub size_means : (bytes : List ℕ) (size : ℕ) → size_of bytes ≡ Some size → (size ≡ block_size_of bytes) × (is_accepted size ≡ true)
unfolding size_of
size_means bytes size e = (Prim.grind (arith, common_steps, e), Prim.grind (arith, common_steps, e))

-- what is read is the block itself, whose block size is accepted and its length
pub read_means : (bytes zero : List ℕ) → read_of bytes ≡ Ok zero → (zero ≡ bytes) × (is_accepted (block_size_of bytes) ≡ true) × (block_size_of bytes ≡ length bytes)
unfolding read_of
read_means bytes zero e = (Prim.grind (arith, common_steps, e), Prim.grind (arith, common_steps, e), Prim.grind (arith, common_steps, e))
