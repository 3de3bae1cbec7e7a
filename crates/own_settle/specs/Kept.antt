-- What holds of all that was reached, whatever the image.
use Rattle.std.specs.Prelude.{ℕ, ◌+◌, ◌*◌, ◌≤◌, List, length}
use Rattle.space_map.specs.Fields.{pool_base_of, pool_blocks_of}

-- a manager's pool lies in so many blocks, and there is a bit for each of its blocks
pub record HasPool (blocks : ℕ) (manager bits : List ℕ) : Type 0 where
  pub inside : pool_base_of manager + pool_blocks_of manager ≤ blocks
  pub enough : pool_blocks_of manager ≤ 8 * length bits
