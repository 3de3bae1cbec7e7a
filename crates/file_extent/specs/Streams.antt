-- The bytes of a stream (Data Streams).
use Rattle.std.specs.Prelude.{ℕ, Bool, ◌+◌, ◌-◌, ◌/◌, ◌%◌, List, map, slice_index, Option, None, Some, if◌then◌else◌}
use Rattle.std.specs.List.{range_with_len, find, list_all}
use Rattle.apfs_model.specs.Blocks.{block_of}
use Rattle.bt_node.specs.Entries.{Pair}
use Rattle.obj_base.specs.declared.site.Site.{Site}
use Rattle.fs_record.specs.StreamExtents.{covers, is_hole, is_extent_placed}
use Rattle.fs_record.specs.Facts.{extents_of, all_for}
use Rattle.fs_record.specs.declared.extents.FileExt.{FileExt}

-- the extents of a stream among a view's records, in record order
unfoldable pub extents_for : ℕ → List Pair → List FileExt
extents_for id pairs = all_for id (extents_of pairs)

-- the extent that covers a byte of a stream, the first in record order where several do
abbrev pub extent_over : List FileExt → ℕ → Option FileExt
extent_over es i = find (λ (e : FileExt). covers e i) es

-- the byte of an extent that is so many bytes after its start; a hole has zeros
unfoldable pub byte_in : ℕ → List ℕ → FileExt → ℕ → ℕ
byte_in block_size image e n = if is_hole e then 0 else slice_index (block_of block_size image (e.block + n / block_size)) (n % block_size)

-- byte i of a stream by the extent that covers it; 0 where none does
abbrev pub byte_by : ℕ → List ℕ → ℕ → Option FileExt → ℕ
byte_by block_size image i None = 0
byte_by block_size image i (Some e) = byte_in block_size image e (i - e.logical)

-- byte i of a stream: that of the extent that covers it, and 0 where none does
unfoldable pub byte_of : ℕ → List ℕ → List FileExt → ℕ → ℕ
byte_of block_size image es i = byte_by block_size image i (extent_over es i)

-- so many bytes of a stream from a place on
abbrev pub bytes_from : ℕ → List ℕ → List FileExt → ℕ → ℕ → List ℕ
bytes_from block_size image es i n = map (byte_of block_size image es) (range_with_len i n)

-- the bytes of a stream of a size
unfoldable pub stream_bytes : ℕ → List ℕ → List FileExt → ℕ → List ℕ
stream_bytes block_size image es size = bytes_from block_size image es 0 size

-- the extents of a stream lie in the container, but for holes
unfoldable pub are_extents_placed : Site → List FileExt → Bool
are_extents_placed site es = list_all (is_extent_placed site.block_size site.blocks) es

-- what is known of a stream once it is opened
pub record Opened : Type 0 where
  pub site : Site
  pub extents : List FileExt
  pub size : ℕ
