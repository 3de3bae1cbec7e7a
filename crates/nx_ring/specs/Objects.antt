-- The objects that a checkpoint maps, in the data area (Container, checkpoint_mapping_t).
use Rattle.std.specs.Prelude.{ℕ, ◌+◌, ◌-◌, ◌/◌, ◌%◌, Bool, ◌&&◌, nat_le, List, map, Some, is_ok}
use Rattle.std.specs.List.{range_with_len, flat_map}
use Rattle.apfs_model.specs.Blocks.{block_of, is_in, is_multiple}
use Rattle.apfs_model.specs.Object.{kind_in}
use Rattle.obj_base.specs.Sound.{sound_of, expecting}
use Rattle.nx_ring.specs.declared.areas.Areas.{Areas}
use Rattle.nx_ring.specs.declared.mappings.Mapping.{Mapping}

-- how many blocks a mapped object has
abbrev pub object_blocks : Areas → Mapping → ℕ
object_blocks areas m = m.size / areas.size

-- the block that is so many blocks after a block of the data area, which goes on at its start
unfoldable pub data_block : Areas → ℕ → ℕ → ℕ
data_block areas paddr t = areas.data_base + ((paddr - areas.data_base) + t) % areas.data_blocks

-- the first so many blocks of a mapped object
abbrev pub first_blocks : Areas → Mapping → ℕ → List ℕ
first_blocks areas m n = map (data_block areas m.paddr) (range_with_len 0 n)

-- the blocks of a mapped object
abbrev pub mapped_blocks : Areas → Mapping → List ℕ
mapped_blocks areas m = first_blocks areas m (object_blocks areas m)

-- the first so many blocks of a mapped object, one after the other
abbrev pub mapped_part : List ℕ → Areas → Mapping → ℕ → List ℕ
mapped_part image areas m n = flat_map (λ t. block_of areas.size image (data_block areas m.paddr t)) (range_with_len 0 n)

-- the bytes of a mapped object: those of all its blocks
abbrev pub mapped_bytes : List ℕ → Areas → Mapping → List ℕ
mapped_bytes image areas m = mapped_part image areas m (object_blocks areas m)

-- a mapping has one or more whole blocks, at most the data area, and starts in the data area
unfoldable pub is_placed : Areas → Mapping → Bool
is_placed areas m =
    (nat_le 1 (object_blocks areas m) && is_multiple m.size areas.size)
    && (nat_le (object_blocks areas m) areas.data_blocks && is_in m.paddr areas.data_base areas.data_blocks)

-- bytes are a sound object of the mapping's kind and oid, of a transaction of at most xid
unfoldable pub is_mapped : ℕ → Mapping → List ℕ → Bool
is_mapped xid m bytes = is_ok (sound_of bytes (expecting (kind_in m.type_bits) (Some m.oid) xid))

-- what stands from the mapping's first block on is such an object
abbrev pub has_object : List ℕ → Areas → ℕ → Mapping → Bool
has_object image areas xid m = is_mapped xid m (mapped_bytes image areas m)

-- where an object is found: its oid, its first block and its bytes
pub record Place : Type 0 where
  pub oid : ℕ
  pub block : ℕ
  pub bytes : List ℕ

-- where a mapping finds its object
abbrev pub place_at : List ℕ → Areas → Mapping → Place
place_at image areas m = record { oid = m.oid; block = m.paddr; bytes = mapped_bytes image areas m }
