-- The blocks of a new container, and what its objects are measured by.
use Rattle.std.specs.Prelude.{ℕ, List}
use Rattle.apfs_model.specs.Blocks.{block_of}
use Rattle.obj_base.specs.declared.site.Site.{Site}
use Rattle.img_format.specs.declared.spec.Spec.{Spec}
use Rattle.img_format.specs.Tables.{size}

-- a block of an image
abbrev pub block_at : List ℕ → ℕ → List ℕ
block_at image k = block_of size image k

-- the block size, the number of blocks and the transaction
abbrev pub site : Spec → Site
site spec = record { block_size = size; blocks = spec.blocks; max_xid = 1 }
