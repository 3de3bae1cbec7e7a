-- How many streams refer to a range.
use Rattle.std.specs.Prelude.{ℕ, ◌+◌, Bool, not, ◌&&◌, nat_lt, min, max, List, length, map, filter}
use Rattle.apfs_model.specs.Lists.{distinct}
use Rattle.fs_record.specs.StreamExtents.{extent_blocks, is_hole}
use Rattle.fs_record.specs.declared.extents.FileExt.{FileExt}
use Rattle.ext_ref.specs.declared.range.NewRange.{NewRange}

-- the block after an extent's last one
abbrev pub end_of : ℕ → FileExt → ℕ
end_of block_size e = e.block + extent_blocks block_size e

-- an extent other than a hole has a block in common with a range
unfoldable pub touches : ℕ → NewRange → FileExt → Bool
touches block_size r e = not (is_hole e) && nat_lt (max r.first e.block) (min (r.first + r.length) (end_of block_size e))

-- the ids of the extents that touch a range; each extent stands after its stream's id
abbrev pub ids_touching : ℕ → List (ℕ × FileExt) → NewRange → List ℕ
ids_touching block_size extents r = map (λ (x : ℕ × FileExt). x.0) (filter (λ (x : ℕ × FileExt). touches block_size r x.1) extents)

-- how many distinct streams have an extent that touches a range
unfoldable pub streams_of : ℕ → List (ℕ × FileExt) → NewRange → ℕ
streams_of block_size extents r = length (distinct (ids_touching block_size extents r))
