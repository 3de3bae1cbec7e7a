-- What is found on a reading of the pool's bitmap.
use Rattle.std.specs.Prelude.{◌≡◌, ℕ, true, false, List}
use Rattle.space_pool.specs.Bits.{has_index, is_pool_index}

-- there is an index of this number, and it leaves the ring or equals an earlier one
pub record IsWrongIndex (manager : List ℕ) (i : ℕ) : Type 0 where
  pub some : has_index manager i ≡ true
  pub wrong : is_pool_index manager i ≡ false
