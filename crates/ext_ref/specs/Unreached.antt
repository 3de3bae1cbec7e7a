-- Blocks that a volume owns and no stream reaches.
use Rattle.std.specs.Prelude.{ℕ, ◌+◌, Bool, not, ◌&&◌, ◌==◌, max, List, [], ◌∷◌, filter, if◌then◌else◌}
use Rattle.std.specs.List.{range_with_len, list_any}
use Rattle.apfs_model.specs.Blocks.{is_in}
use Rattle.fs_record.specs.StreamExtents.{extent_blocks, is_hole}
use Rattle.fs_record.specs.declared.extents.FileExt.{FileExt}
use Rattle.ext_ref.specs.Cover.{is_owned}
use Rattle.ext_ref.specs.declared.range.NewRange.{NewRange}

-- an extent other than a hole reaches a block; the extent stands after its stream's id
abbrev pub reaches : ℕ → ℕ → ℕ × FileExt → Bool
reaches block_size block x = not (is_hole x.1) && is_in block x.1.block (extent_blocks block_size x.1)

-- a block of a range that no extent reaches
unfoldable pub is_unreached : ℕ → List NewRange → List (ℕ × FileExt) → ℕ → Bool
is_unreached block_size ranges extents block = is_owned ranges block && not (list_any (reaches block_size block) extents)

-- the greatest end of some ranges
abbrev pub end_of_ranges : List NewRange → ℕ
end_of_ranges [] = 0
end_of_ranges (r ∷ rs) = max (r.first + r.length) (end_of_ranges rs)

-- a number before a list of runs: it lengthens the first one where that follows it, and otherwise is a run of its own
abbrev pub before_runs : ℕ → List (ℕ × ℕ) → List (ℕ × ℕ)
before_runs n [] = (n, 1) ∷ []
before_runs n (r ∷ rs) = if n + 1 == r.0 then (n, r.1 + 1) ∷ rs else (n, 1) ∷ r ∷ rs

-- the longest runs of numbers that follow one another, each by its first number and its length
abbrev pub runs_of : List ℕ → List (ℕ × ℕ)
runs_of [] = []
runs_of (n ∷ ns) = before_runs n (runs_of ns)

-- the longest runs of unreached blocks, ascending; from the ranges' greatest end on there is none
unfoldable pub unreached_runs : ℕ → List NewRange → List (ℕ × FileExt) → List (ℕ × ℕ)
unreached_runs block_size ranges extents = runs_of (filter (is_unreached block_size ranges extents) (range_with_len 0 (end_of_ranges ranges)))
