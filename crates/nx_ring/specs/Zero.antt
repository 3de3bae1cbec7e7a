-- The first block of a container, and the areas that it names.
use Rattle.std.specs.Prelude.{◌≡◌, ℕ, ◌/◌, ◌%◌, ◌^◌, ◌<◌, Bool, true, false, not, ◌&&◌, nat_lt, nat_le, List, length, is_ok, Result, Err, if◌then◌else◌}
use Rattle.std.specs.Option.{is_some}
use Rattle.apfs_model.specs.Blocks.{block_of, is_inside}
use Rattle.obj_base.specs.declared.stop.Feature.{Feature}
use Rattle.obj_base.specs.declared.stop.Feature.TheVariants.{NonContiguous}
use Rattle.obj_base.specs.declared.stop.Stop.{Stop}
use Rattle.obj_base.specs.declared.stop.Stop.TheVariants.{Found, Unsupported}
use Rattle.nx_block.specs.Super.{block_size_of, block_count_of, desc_base_of, desc_blocks_of, data_base_of, data_blocks_of}
use Rattle.nx_block.specs.Read.{read_of, size_of}
use Rattle.nx_ring.specs.declared.areas.Areas.{Areas}
use Rattle.nx_ring.specs.declared.fault.RingFault.{RingFault}
use Rattle.nx_ring.specs.declared.fault.RingFault.TheVariants.{BlockZero, Truncated}

-- the first bytes of an image, which tell its block size
abbrev pub first_of : List ℕ → List ℕ
first_of image = block_of 4096 image 0

-- the block size that the first bytes of an image give
unfoldable pub size_in : List ℕ → ℕ
size_in image = block_size_of (first_of image)

-- block 0, by the block size that its first bytes give
unfoldable pub zero_of : List ℕ → List ℕ
zero_of image = block_of (size_in image) image 0

-- the block size and the areas that a superblock names
unfoldable pub areas_of : List ℕ → Areas
areas_of bytes = record {
  size = block_size_of bytes;
  desc_base = desc_base_of bytes;
  desc_blocks = desc_blocks_of bytes;
  data_base = data_base_of bytes;
  data_blocks = data_blocks_of bytes;
}

-- the blocks of an area, without the bit that says that it isn't contiguous
abbrev pub area_len : ℕ → ℕ
area_len blocks = blocks % 2 ^ 31

-- an area of one block or more that lies in a container of so many blocks
unfoldable pub is_area : ℕ → ℕ → ℕ → Bool
is_area base blocks count = nat_lt 0 (area_len blocks) && is_inside base (area_len blocks) count

-- both areas of a superblock lie in its container
unfoldable pub has_areas : List ℕ → Bool
has_areas zero =
    is_area (desc_base_of zero) (desc_blocks_of zero) (block_count_of zero)
    && is_area (data_base_of zero) (data_blocks_of zero) (block_count_of zero)

-- the image has its first bytes, they give a block size, and block 0 lies wholly in the image
unfoldable pub has_zero : List ℕ → Bool
has_zero image = nat_le 4096 (length image) && (is_some (size_of (first_of image)) && nat_le (size_in image) (length image))

-- a sound superblock whose areas lie in its container
unfoldable pub is_whole : List ℕ → Bool
is_whole zero = is_ok (read_of zero) && has_areas zero

-- block 0 is right
unfoldable pub is_right : List ℕ → Bool
is_right image = has_zero image && is_whole (zero_of image)

-- the whole blocks of an image of so many bytes, by block 0's block size
abbrev pub blocks_in : ℕ → List ℕ → ℕ
blocks_in len zero = len / block_size_of zero

-- an image of so many bytes has fewer blocks than block 0 tells of
unfoldable pub is_short : ℕ → List ℕ → Bool
is_short len zero = nat_lt (blocks_in len zero) (block_count_of zero)

-- both areas are contiguous
unfoldable pub is_contiguous : List ℕ → Bool
is_contiguous zero = nat_lt (desc_blocks_of zero) (2 ^ 31) && nat_lt (data_blocks_of zero) (2 ^ 31)

-- an answer, where an image of so many bytes has all blocks that block 0 tells of, and both areas are contiguous; otherwise the first of the two that fails
unfoldable pub where_whole : {T : Type 0} → ℕ → List ℕ → Result T (Stop RingFault) → Result T (Stop RingFault)
where_whole len zero answer =
    if is_short len zero then Err (Found (Truncated (blocks_in len zero) (block_count_of zero))) else
    if not (is_contiguous zero) then Err (Unsupported NonContiguous 0) else
    answer

-- an answer, where block 0 is right and both of these hold; otherwise the first of the three that fails
unfoldable pub after_zero : {T : Type 0} → List ℕ → Result T (Stop RingFault) → Result T (Stop RingFault)
after_zero image answer = if is_right image then where_whole (length image) (zero_of image) answer else Err (Found BlockZero)

-- BlockZero: block 0 isn't right
abbrev pub IsWrongZero : List ℕ → Type 0
IsWrongZero image = is_right image ≡ false

-- Truncated: block 0 is right, and its container has more blocks than the image
pub record IsTruncated (image : List ℕ) (have need : ℕ) : Type 0 where
  pub right : is_right image ≡ true
  pub have_is : have ≡ blocks_in (length image) (zero_of image)
  pub need_is : need ≡ block_count_of (zero_of image)
  pub fewer : have < need

-- NonContiguous: block 0 is right, and one of its areas isn't contiguous
pub record IsNonContiguous (image : List ℕ) (name : Feature) (block : ℕ) : Type 0 where
  pub name_is : name ≡ NonContiguous
  pub block_is : block ≡ 0
  pub right : is_right image ≡ true
  pub split : is_contiguous (zero_of image) ≡ false
