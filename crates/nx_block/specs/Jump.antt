-- The EFI jumpstart (EFI Jumpstart, nx_efi_jumpstart_t).
use Rattle.std.specs.Prelude.{ℕ, ◌+◌, ◌*◌, Bool, ◌==◌, ◌&&◌, nat_le, List, length, map}
use Rattle.std.specs.List.{range_with_len}
use Rattle.apfs_model.specs.Bytes.{u32_at}
use Rattle.nx_block.specs.Super.{range_at}

-- the bytes JSDR as a number
abbrev pub jump_magic : ℕ
jump_magic = 0x5244534a

-- the magic, as a number (nej_magic)
unfoldable pub jump_magic_of : List ℕ → ℕ
jump_magic_of bytes = u32_at bytes 32

-- the number of extents of the driver (nej_num_extents)
unfoldable pub jump_count_of : List ℕ → ℕ
jump_count_of bytes = u32_at bytes 44

-- an extent of the driver: its first block and its number of blocks (nej_rec_extents)
unfoldable pub jump_extent_of : List ℕ → ℕ → ℕ × ℕ
jump_extent_of bytes i = range_at bytes (176 + 16 * i)

-- a jumpstart: it has the magic, and its extents fit its block
unfoldable pub is_jump : List ℕ → Bool
is_jump bytes = (jump_magic_of bytes == jump_magic) && nat_le (176 + 16 * jump_count_of bytes) (length bytes)

-- the extents of the driver
abbrev pub jump_extents_of : List ℕ → List (ℕ × ℕ)
jump_extents_of bytes = map (jump_extent_of bytes) (range_with_len 0 (jump_count_of bytes))
