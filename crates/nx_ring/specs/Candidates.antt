-- The candidates of the descriptor area (Container, "Mounting an Apple File System Partition").
use Rattle.std.specs.Prelude.{ℕ, ◌+◌, ◌*◌, Bool, ◌&&◌, ◌==◌, nat_le, List, length, Option, None, Some, is_ok, if◌then◌else◌}
use Rattle.std.specs.List.{range_with_len, filter_map}
use Rattle.apfs_model.specs.Blocks.{block_of}
use Rattle.apfs_model.specs.Object.{xid_of}
use Rattle.nx_block.specs.Super.{block_size_of, block_count_of, desc_base_of, desc_blocks_of, data_base_of, data_blocks_of, desc_index_of, desc_len_of}
use Rattle.nx_block.specs.Read.{read_of}
use Rattle.nx_ring.specs.declared.areas.Areas.{Areas}
use Rattle.nx_ring.specs.declared.line.RingLine.{RingLine}

-- a superblock agrees with block 0 in block size and in both areas' bases and numbers
unfoldable pub has_areas_of : Areas → List ℕ → Bool
has_areas_of areas bytes =
    ((block_size_of bytes == areas.size)
    && ((desc_base_of bytes == areas.desc_base) && (desc_blocks_of bytes == areas.desc_blocks)))
    && ((data_base_of bytes == areas.data_base) && (data_blocks_of bytes == areas.data_blocks))

-- a candidate: a sound superblock that agrees with block 0, whose container lies in an image of so many bytes
unfoldable pub is_candidate : ℕ → Areas → List ℕ → Bool
is_candidate len areas bytes =
    is_ok (read_of bytes) && (has_areas_of areas bytes && nat_le (block_count_of bytes * block_size_of bytes) len)

-- what is told of the candidate at an index
abbrev pub line_of : Areas → ℕ → List ℕ → RingLine
line_of areas index bytes = record {
  index = index;
  block = areas.desc_base + index;
  xid = xid_of bytes;
  desc_index = desc_index_of bytes;
  desc_len = desc_len_of bytes;
}

-- the block at an index of the descriptor area
unfoldable pub ring_block : List ℕ → Areas → ℕ → List ℕ
ring_block image areas index = block_of areas.size image (areas.desc_base + index)

-- the candidate in a block at an index, if it is one
unfoldable pub candidate_in : ℕ → Areas → ℕ → List ℕ → Option RingLine
candidate_in len areas index bytes = if is_candidate len areas bytes then Some (line_of areas index bytes) else None

-- the candidate at an index, if there is one
abbrev pub candidate : List ℕ → Areas → ℕ → Option RingLine
candidate image areas index = candidate_in (length image) areas index (ring_block image areas index)

-- the candidates at the first indices
abbrev pub candidates : List ℕ → Areas → ℕ → List RingLine
candidates image areas n = filter_map (candidate image areas) (range_with_len 0 n)

-- the candidates of the whole area
unfoldable pub all_candidates : List ℕ → Areas → List RingLine
all_candidates image areas = candidates image areas areas.desc_blocks
