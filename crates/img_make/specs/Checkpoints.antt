-- Which blocks the images of several checkpoints have of their own.
use Rattle.std.specs.Prelude.{◌≢◌, ℕ}

-- a block is none of the second checkpoint's: its map and its superblock are in blocks 3 and 4, and its four objects in 13 to 16
pub record IsNoSecondBlock (block : ℕ) : Type 0 where
  pub no_map : 3 ≢ block
  pub no_superblock : 4 ≢ block
  pub no_space_manager : 13 ≢ block
  pub no_reaper : 14 ≢ block
  pub no_pool_queue : 15 ≢ block
  pub no_main_queue : 16 ≢ block

-- a block is none of the ring of four superblocks, nor the copy in block 0
pub record IsNoRingBlock (block : ℕ) : Type 0 where
  pub no_copy : 0 ≢ block
  pub no_first : 2 ≢ block
  pub no_second : 4 ≢ block
  pub no_third : 6 ≢ block
  pub no_fourth : 8 ≢ block
