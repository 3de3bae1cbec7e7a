-- The order of extents, each beside the id of its stream.
use Rattle.std.specs.Prelude.{◌≡◌, ℕ, ◌+◌, ◌<◌, Bool, true, false, not, ◌&&◌, ◌||◌, ◌==◌, nat_lt, nat_le, List, length}
use Rattle.std.specs.List.{slice_index_or, AllAdjacentBelow}
use Rattle.std.specs.declared.cmp.Ordering.{Ordering}
use Rattle.std.specs.Ordering.{nat_cmp, ordering_then}
use Rattle.fs_record.specs.Facts.{Fact}
use Rattle.fs_record.specs.StreamExtents.{extent_end, is_extent_even}
use Rattle.fs_record.specs.declared.extents.FileExt.{FileExt}

-- an extent has no length, begins or ends inside a block, or ends above 2^63
abbrev pub is_uneven : ℕ → Fact FileExt → Bool
is_uneven block_size f = not (is_extent_even block_size f.what)

-- an extent after the id of its stream
abbrev pub piece : Fact FileExt → ℕ × FileExt
piece f = (f.id, f.what)

-- an extent and the id of its stream, by the id and by where the extent begins
abbrev pub piece_cmp : ℕ × FileExt → ℕ × FileExt → Ordering
piece_cmp a b = ordering_then (nat_cmp a.0 b.0) (nat_cmp a.1.logical b.1.logical)

-- the second is of a later stream, or of the same one and doesn't begin before the first ends
abbrev pub follows : ℕ × FileExt → ℕ × FileExt → Bool
follows a b = nat_lt a.0 b.0 || ((a.0 == b.0) && nat_le (extent_end a.1) b.1.logical)

-- each of the first so many follows the one before it
abbrev pub Follow : List (ℕ × FileExt) → ℕ → Type 0
Follow pieces count = AllAdjacentBelow (λ (a b : ℕ × FileExt). follows a b ≡ true) pieces count

-- each extent follows the one before it
abbrev pub StandInOrder : List (Fact FileExt) → Type 0
StandInOrder extents = AllAdjacentBelow (λ (a b : Fact FileExt). follows (piece a) (piece b) ≡ true) extents (length extents)

-- an extent of a stream isn't followed by the next
pub record IsCrossing (pieces : List (ℕ × FileExt)) (id : ℕ) : Type 0 where
  pub place : ℕ
  pub inside : place + 1 < length pieces
  pub same : (d : ℕ × FileExt) → (slice_index_or pieces place d).0 ≡ id
  pub crosses : (d : ℕ × FileExt) → follows (slice_index_or pieces place d) (slice_index_or pieces (place + 1) d) ≡ false
