-- The EFI jumpstart of a container (EFI Jumpstart, nx_efi_jumpstart_t).
use Rattle.std.specs.Prelude.{◌≡◌, ℕ, ◌==◌, List, [], Some, Result, if◌then◌else◌}
use Rattle.apfs_model.specs.Blocks.{block_of}
use Rattle.apfs_model.specs.Lists.{In, Lists}
use Rattle.apfs_model.specs.Object.{jumpstart_kind}
use Rattle.obj_base.specs.declared.stop.Stop.{Stop}
use Rattle.nx_block.specs.Super.{jumpstart_of}
use Rattle.nx_block.specs.Jump.{jump_extents_of}
use Rattle.nx_ring.specs.Checkpoint.{Seen, site_of}
use Rattle.reach_rules.specs.declared.fault.ReachFault.{ReachFault}
use Rattle.reach_rules.specs.declared.naming.LookUp.TheVariants.{ByBlock}
use Rattle.reach_rules.specs.declared.naming.Object.TheVariants.{Newest}
use Rattle.reach_rules.specs.declared.naming.Namer.TheVariants.{Whole}
use Rattle.reach_rules.specs.declared.naming.Expected.TheVariants.{Jumpstart}
use Rattle.reach_rules.specs.declared.naming.Naming.{Naming}
use Rattle.reach_rules.specs.Resolved.{Found, found_physical}
use Rattle.reach_rules.specs.Tested.{head_tested}
use Rattle.reach_rules.specs.Next.{next, unless_zero}
use Rattle.reach_rules.specs.Live.{Live}
use Rattle.reach_gather.specs.Namings.{IsPlainNaming}
use Rattle.reach_gather.specs.Told.{told}

-- what the superblock names as the jumpstart
abbrev pub jump_root : List ℕ → List Naming
jump_root nx = unless_zero (Whole Newest) 1272 Jumpstart ByBlock (jumpstart_of nx)

-- the object of a jumpstart's header in a block, or what is told where it isn't one
unfoldable pub told_jump : List ℕ → Seen → ℕ → Result Found (Stop ReachFault)
told_jump image seen oid = told seen ByBlock oid (head_tested (site_of seen) jumpstart_kind (Some oid)) (found_physical image (site_of seen) oid)

-- the extents of the driver of a container, none where the superblock names no jumpstart
abbrev pub jump_extents_in : List ℕ → Seen → List (ℕ × ℕ)
jump_extents_in image seen = if jumpstart_of seen.nx == 0 then [] else jump_extents_of (block_of (site_of seen).block_size image (jumpstart_of seen.nx))

-- the naming of the jumpstart, where there is one, resolves, is sound and has no feature
abbrev pub IsRightJump : List ℕ → Seen → Type 0
IsRightJump image seen = (n : Naming) → In n (jump_root seen.nx) → IsPlainNaming image seen n

-- such a jumpstart names nothing, and these are the extents of its driver
pub record IsJumped (image : List ℕ) (seen : Seen) (extents : List (ℕ × ℕ)) : Type 0 where
  pub live : Lists (jump_root seen.nx) (Live (jump_root seen.nx) (next image seen))
  pub plain : IsRightJump image seen
  pub told : extents ≡ jump_extents_in image seen
