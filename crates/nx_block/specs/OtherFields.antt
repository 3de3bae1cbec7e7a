-- Fields of the container superblock that no rule reads, and the jumpstart as one answer.
use Rattle.std.specs.Prelude.{ℕ, List, Option, Some, None, if◌then◌else◌}
use Rattle.apfs_model.specs.Bytes.{u32_at, u64_at, part_at}
use Rattle.nx_block.specs.Jump.{is_jump}

-- the four bytes of the magic (nx_magic)
unfoldable pub magic_bytes_of : List ℕ → List ℕ
magic_bytes_of bytes = part_at bytes 32 4

-- the next object's id (nx_next_oid)
unfoldable pub next_oid_of : List ℕ → ℕ
next_oid_of bytes = u64_at bytes 88

-- the next transaction (nx_next_xid)
unfoldable pub next_xid_of : List ℕ → ℕ
next_xid_of bytes = u64_at bytes 96

-- the next index of the descriptor area (nx_xp_desc_next)
unfoldable pub desc_next_of : List ℕ → ℕ
desc_next_of bytes = u32_at bytes 128

-- the next index of the data area (nx_xp_data_next)
unfoldable pub data_next_of : List ℕ → ℕ
data_next_of bytes = u32_at bytes 132

-- the index of the checkpoint's first data block (nx_xp_data_index)
unfoldable pub data_index_of : List ℕ → ℕ
data_index_of bytes = u32_at bytes 144

-- the checkpoint's data blocks (nx_xp_data_len)
unfoldable pub data_len_of : List ℕ → ℕ
data_len_of bytes = u32_at bytes 148

-- the jumpstart, where the block is one
abbrev pub jump_of : List ℕ → Option (List ℕ)
jump_of bytes = if is_jump bytes then Some bytes else None
