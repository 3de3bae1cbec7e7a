-- Streams in an image of four blocks of 4 bytes.
use Rattle.std.specs.Prelude.{◌≡◌, ℕ, List, [], ◌∷◌, refl}
use Rattle.apfs_model.specs.Blocks.{block_of}
use Rattle.fs_record.specs.declared.extents.FileExt.{FileExt}
use Rattle.file_extent.specs.Streams.{byte_in, byte_of, stream_bytes}
use Rattle.file_extent.specs.Opened.{read_len}

abbrev image : List ℕ
image = 0 ∷ 1 ∷ 2 ∷ 3 ∷ 10 ∷ 11 ∷ 12 ∷ 13 ∷ 20 ∷ 21 ∷ 22 ∷ 23 ∷ 30 ∷ 31 ∷ 32 ∷ 33 ∷ []

abbrev extent : ℕ → ℕ → ℕ → FileExt
extent logical length block = record { logical = logical; length = length; block = block }

-- a hole is zeros, and not the bytes of block 0; the extent after it goes on from block 1 to block 2, and is cut at the size
pub hole : stream_bytes 4 image (extent 0 4 0 ∷ extent 4 8 1 ∷ []) 10 ≡ 0 ∷ 0 ∷ 0 ∷ 0 ∷ 10 ∷ 11 ∷ 12 ∷ 13 ∷ 20 ∷ 21 ∷ []
unfolding stream_bytes byte_of byte_in block_of
hole = refl

-- bytes that no extent covers are zeros, before an extent and after it
pub uncovered : stream_bytes 4 image (extent 4 4 3 ∷ []) 9 ≡ 0 ∷ 0 ∷ 0 ∷ 0 ∷ 30 ∷ 31 ∷ 32 ∷ 33 ∷ 0 ∷ []
unfolding stream_bytes byte_of byte_in block_of
uncovered = refl

-- of extents that overlap the first counts
pub overlapping : stream_bytes 4 image (extent 4 4 3 ∷ extent 0 8 1 ∷ []) 6 ≡ 10 ∷ 11 ∷ 12 ∷ 13 ∷ 30 ∷ 31 ∷ []
unfolding stream_bytes byte_of byte_in block_of
overlapping = refl

-- a read of 20 bytes near the end of 5,000 gives what is left, and one at the end nothing
pub near_end : read_len 5000 4990 20 ≡ 10
near_end = refl

pub at_end : read_len 5000 5000 20 ≡ 0
at_end = refl
