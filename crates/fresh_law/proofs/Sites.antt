-- The site of the checkpoint, and blocks inside the container.
use Rattle.std.proofs.Common.{arith, ◌≡◌, ℕ, ◌+◌, ◌<◌, ◌≤◌, true, List, Some}
use Rattle.std.proofs.lemmas.Grind.{common_steps}
use Rattle.apfs_model.specs.Blocks.{in_container, is_inside}
use Rattle.obj_base.specs.declared.site.Site.{Site}
use Rattle.nx_ring.specs.Checkpoint.{site_of}
use Rattle.img_format.specs.declared.spec.Spec.{Spec}
use Rattle.img_format.specs.Valid.{IsValid}
use Rattle.fresh_law.specs.Site.{site}
use Rattle.fresh_law.specs.Checkpoint.{seen}
use Rattle.fresh_law.specs.Facts.{IsFresh}

site-by : (size blocks : ℕ) (size' blocks' : ℕ) → size ≡ size' → blocks ≡ blocks' → ◌≡◌ {A = Site} (record { block_size = size; blocks = blocks; max_xid = 1 }) (record { block_size = size'; blocks = blocks'; max_xid = 1 })
site-by size blocks size' blocks' e f = Prim.cc

-- the checkpoint's site
pub site-is : (spec : Spec) (image : List ℕ) → IsFresh spec image → site_of (seen image) ≡ site spec
unfolding site_of
site-is spec image f = site-by _ _ _ _ f.newest.block_size f.newest.blocks

-- each of the first 57 blocks but block 0 is one of the container
pub inside : (spec : Spec) → IsValid spec → (k : ℕ) → 0 < k → k < 57 → in_container spec.blocks k ≡ Some k
inside spec v k some low = Prim.grind (arith, common_steps, some, low, v.least)

-- ranges of them lie inside
pub range-inside : (spec : Spec) → IsValid spec → (first blocks : ℕ) → first + blocks ≤ 57 → is_inside first blocks spec.blocks ≡ true
range-inside spec v first blocks e = Prim.grind (arith, common_steps, e, v.least)
