-- How the extents of a stream lie that was opened: they rise, so that they can be searched.
use Rattle.std.specs.Prelude.{◌≡◌, ℕ, ◌+◌, ◌<◌, ◌≤◌, Bool, true, ◌&&◌, nat_le, List, [], ◌∷◌, Option}
use Rattle.std.specs.List.{list_all}
use Rattle.obj_base.specs.declared.site.Site.{Site}
use Rattle.fs_record.specs.StreamExtents.{extent_end, is_extent_even}
use Rattle.fs_record.specs.declared.extents.FileExt.{FileExt}
use Rattle.file_extent.specs.Streams.{extent_over, are_extents_placed}

-- extents each of which begins where the one before it ends, or after that; the first at a place or after it
abbrev pub are_rising : ℕ → List FileExt → Bool
are_rising from [] = true
are_rising from (e ∷ es) = nat_le from e.logical && are_rising (extent_end e) es

-- where the last of some extents ends, or the place before them
abbrev pub last_end : ℕ → List FileExt → ℕ
last_end from [] = from
last_end from (e ∷ es) = last_end (extent_end e) es

-- extents that rise, each of them even and in the container
pub record AreLaid (site : Site) (es : List FileExt) : Type 0 where
  pub even : list_all (is_extent_even site.block_size) es ≡ true
  pub placed : are_extents_placed site es ≡ true
  pub rising : are_rising 0 es ≡ true

-- one extent covers all bytes of a part of a stream, or none covers any of them
pub record IsPart (es : List FileExt) (i : ℕ) (extent : Option FileExt) (left : ℕ) : Type 0 where
  pub some : 0 < left
  pub same : (j : ℕ) → i ≤ j → j < i + left → extent_over es j ≡ extent
