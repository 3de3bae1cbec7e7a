-- An image without bytes is no container: it has no block 0.
use Rattle.std.proofs.Common.{◌≡◌, [], Err, refl}
use Rattle.obj_base.specs.declared.stop.Stop.TheVariants.{Found}
use Rattle.nx_ring.specs.declared.fault.RingFault.TheVariants.{BlockZero as no_zero}
use Rattle.nx_ring.specs.Zero.{has_zero, is_right, after_zero}
use Rattle.nx_ring.specs.Newest.{newest_of}
use Rattle.view_rules.specs.declared.profile.Profile.{Profile}
use Rattle.apfs_check.specs.declared.fault.Fault.TheVariants.{BlockZero}
use Rattle.apfs_check.specs.Present.{IsPresent}
use Rattle.apfs_check.specs.WellFormed.{IsWellFormed}

pub no_bytes_present : (profile : Profile) → IsPresent profile [] BlockZero
unfolding has_zero is_right
no_bytes_present profile = refl

no_bytes_newest : newest_of [] ≡ Err (Found no_zero)
unfolding has_zero is_right after_zero newest_of
no_bytes_newest = refl

pub no_bytes_flawed : (profile : Profile) → IsWellFormed profile [] → ⊥
no_bytes_flawed profile well = let newest = well.newest in let none = no_bytes_newest in cc
