-- The rules on extents: their order, their place in the container, and the ranges that cover them.
use Rattle.std.specs.Prelude.{ℕ, Bool, not, ◌&&◌, List}
use Rattle.fs_record.specs.Facts.{Fact, all_for}
use Rattle.fs_record.specs.StreamExtents.{extent_blocks, is_hole, are_extents_ordered, is_extent_placed}
use Rattle.fs_record.specs.declared.extents.FileExt.{FileExt}
use Rattle.ext_ref.specs.Cover.{is_covered}
use Rattle.ext_ref.specs.declared.range.NewRange.{NewRange}
use Rattle.view_rules.specs.Words.{IsClear, IsBroken}
use Rattle.view_rules.specs.Facts.{Facts, id_of_fact}

-- the extents of an extent's stream aren't in order
unfoldable pub is_disordered : ℕ → Facts → Fact FileExt → Bool
is_disordered block_size facts f = not (are_extents_ordered block_size (all_for f.id facts.extents))

-- the extents of each stream are in order
abbrev pub HasExtentOrder : ℕ → Facts → Type 0
HasExtentOrder block_size facts = IsClear (is_disordered block_size facts) facts.extents

-- ExtentOrder: an extent of a stream has no length, begins or ends inside a block, or ends above 2^63; or two overlap
abbrev pub IsExtentOrder : ℕ → Facts → ℕ → Type 0
IsExtentOrder block_size facts id = IsBroken (is_disordered block_size facts) id_of_fact facts.extents id

-- an extent that is no hole leaves the container
unfoldable pub is_misplaced : ℕ → ℕ → Fact FileExt → Bool
is_misplaced block_size blocks f = not (is_extent_placed block_size blocks f.what)

-- the extents lie in the container
abbrev pub HasExtentPlaces : ℕ → ℕ → Facts → Type 0
HasExtentPlaces block_size blocks facts = IsClear (is_misplaced block_size blocks) facts.extents

-- ExtentPlace: an extent with another block than 0 leaves the container
abbrev pub IsExtentPlace : ℕ → ℕ → Facts → ℕ → Type 0
IsExtentPlace block_size blocks facts id = IsBroken (is_misplaced block_size blocks) id_of_fact facts.extents id

-- an extent that is no hole isn't covered by some ranges
unfoldable pub is_uncovered : ℕ → List NewRange → Fact FileExt → Bool
is_uncovered block_size ranges f = not (is_hole f.what) && not (is_covered ranges f.what.block (extent_blocks block_size f.what))

-- the new ranges of the volume and of its snapshots cover the extents
abbrev pub HasCover : ℕ → List NewRange → Facts → Type 0
HasCover block_size ranges facts = IsClear (is_uncovered block_size ranges) facts.extents

-- ExtentUncovered: an extent with another block than 0 isn't covered by the new ranges of the volume and of its snapshots
abbrev pub IsExtentUncovered : ℕ → List NewRange → Facts → ℕ → Type 0
IsExtentUncovered block_size ranges facts id = IsBroken (is_uncovered block_size ranges) id_of_fact facts.extents id
