-- Checkpoint maps and their mappings (Container, checkpoint_map_phys_t and checkpoint_mapping_t).
use Rattle.std.specs.Prelude.{ℕ, ◌+◌, ◌*◌, Bool, ◌&&◌, nat_le, List, length, map, Some, is_ok}
use Rattle.std.specs.List.{range_with_len}
use Rattle.apfs_model.specs.Bytes.{u32_at, u64_at}
use Rattle.apfs_model.specs.Object.{checkpoint_map_kind}
use Rattle.obj_base.specs.Sound.{sound_of, expecting}
use Rattle.nx_ring.specs.declared.mappings.Mapping.{Mapping}

-- how many mappings a checkpoint map has (cpm_count)
unfoldable pub map_count_of : List ℕ → ℕ
map_count_of bytes = u32_at bytes 36

-- a mapping at a place of a checkpoint map: its type, its size, its oid and its first block (cpm_type, cpm_size, cpm_oid, cpm_paddr)
unfoldable pub mapping_at : List ℕ → ℕ → Mapping
mapping_at bytes at = record { type_bits = u32_at bytes at; size = u32_at bytes (at + 8); oid = u64_at bytes (at + 24); paddr = u64_at bytes (at + 32) }

-- mapping i of a checkpoint map (cpm_map)
abbrev pub mapping_of_map : List ℕ → ℕ → Mapping
mapping_of_map bytes i = mapping_at bytes (40 + 40 * i)

-- the mappings of a checkpoint map
abbrev pub mappings_in : List ℕ → List Mapping
mappings_in bytes = map (mapping_of_map bytes) (range_with_len 0 (map_count_of bytes))

-- the mappings of a checkpoint map fit its block
unfoldable pub has_count : List ℕ → Bool
has_count bytes = nat_le (40 + 40 * map_count_of bytes) (length bytes)

-- a sound checkpoint map in its block, of a transaction of at most xid, whose mappings fit; as a physical object it has its block as oid
unfoldable pub is_map : ℕ → ℕ → List ℕ → Bool
is_map block xid bytes = is_ok (sound_of bytes (expecting checkpoint_map_kind (Some block) xid)) && has_count bytes
