-- The list of candidates, and the faults of a ring.
use Rattle.std.specs.Prelude.{◌⊎◌, ℕ, List, Result, Ok}
use Rattle.obj_base.specs.declared.stop.Feature.{Feature}
use Rattle.obj_base.specs.declared.stop.Stop.{Stop}
use Rattle.nx_ring.specs.declared.fault.RingFault.{RingFault}
use Rattle.nx_ring.specs.declared.fault.RingFault.TheVariants.{BlockZero, Truncated, NoCheckpoint}
use Rattle.nx_ring.specs.declared.line.RingLine.{RingLine}
use Rattle.nx_ring.specs.Zero.{zero_of, areas_of, after_zero, IsWrongZero, IsTruncated, IsNonContiguous}
use Rattle.nx_ring.specs.Candidates.{all_candidates}
use Rattle.nx_ring.specs.Newest.{HasNoCheckpoint, IsContainerFeature}

-- the candidates by index, or the first of the three tests that fails
unfoldable pub ring_of : List ℕ → Result (List RingLine) (Stop RingFault)
ring_of image = after_zero image (Ok (all_candidates image (areas_of (zero_of image))))

-- the fact of an image that a fault names
abbrev pub IsRingFault : List ℕ → RingFault → Type 0
IsRingFault image BlockZero = IsWrongZero image
IsRingFault image (Truncated have need) = IsTruncated image have need
IsRingFault image NoCheckpoint = HasNoCheckpoint image

-- the fact of an image that a feature in a block names
abbrev pub IsRingFeature : List ℕ → Feature → ℕ → Type 0
IsRingFeature image name block = IsNonContiguous image name block ⊎ IsContainerFeature image name block
