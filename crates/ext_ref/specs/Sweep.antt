-- How many streams touch spans, by the places between which the spans stand that a stream touches.
use Rattle.std.specs.Prelude.{◌≡◌, ◌<◌, ℕ, ◌==◌, Bool, not, ◌&&◌, nat_lt, min, max, List, length, map, filter, slice_index, slice_index_or}
use Rattle.std.specs.List.Sorted.{IsNonDecreasingBy}
use Rattle.apfs_model.specs.Lists.{distinct}
use Rattle.fs_record.specs.StreamExtents.{is_hole}
use Rattle.fs_record.specs.declared.extents.FileExt.{FileExt}
use Rattle.ext_ref.specs.References.{end_of}
use Rattle.ext_ref.specs.Left.{AreFull}
use Rattle.ext_ref.specs.declared.covering.Span.{Span}

-- an extent other than a hole has a block in common with a span; it stands after its stream's id
unfoldable pub meets : ℕ → Span → ℕ × FileExt → Bool
meets block_size s x = not (is_hole x.1) && nat_lt (max s.first x.1.block) (min s.end (end_of block_size x.1))

-- how many distinct streams have an extent that has a block in common with a span
abbrev pub streams_at : ℕ → List (ℕ × FileExt) → Span → ℕ
streams_at block_size extents s = length (distinct (map (λ (x : ℕ × FileExt). x.0) (filter (meets block_size s) extents)))

-- an extent is of a stream
abbrev pub is_of : ℕ → ℕ × FileExt → Bool
is_of id x = x.0 == id

-- spans have a block each, and neither their first blocks nor their ends fall
pub record AreRising (spans : List Span) : Type 0 where
  pub full : AreFull spans
  pub firsts : IsNonDecreasingBy (λ (s : Span). s.first) spans
  pub ends : IsNonDecreasingBy (λ (s : Span). s.end) spans

-- numbers beside spans: for each how many streams touch it
pub record AreCounts (block_size : ℕ) (extents : List (ℕ × FileExt)) (spans : List Span) (counts : List ℕ) : Type 0 where
  pub long : length counts ≡ length spans
  pub each : (i : ℕ) (none : Span) → i < length spans → slice_index counts i ≡ streams_at block_size extents (slice_index_or spans i none)
