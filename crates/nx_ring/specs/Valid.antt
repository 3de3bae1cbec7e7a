-- Which candidates are valid (Container, "Mounting an Apple File System Partition").
use Rattle.std.specs.Prelude.{◌≡◌, ℕ, ◌+◌, ◌-◌, ◌%◌, Bool, ◌&&◌, ◌==◌, nat_le, List, map}
use Rattle.std.specs.List.{range_with_len, flat_map, list_all}
use Rattle.apfs_model.specs.Lists.{is_distinct}
use Rattle.nx_ring.specs.declared.areas.Areas.{Areas}
use Rattle.nx_ring.specs.declared.line.RingLine.{RingLine}
use Rattle.nx_ring.specs.declared.mappings.Mapping.{Mapping}
use Rattle.nx_ring.specs.Candidates.{ring_block}
use Rattle.nx_ring.specs.Mappings.{mappings_in, is_map}
use Rattle.nx_ring.specs.Objects.{mapped_blocks, is_placed, has_object}

-- the index of the descriptor area that is so many after the checkpoint's start, with wrap
unfoldable pub index_after : Areas → RingLine → ℕ → ℕ
index_after areas line j = (line.desc_index + j) % areas.desc_blocks

-- a checkpoint has one block or more, at most the area, and its superblock is its last
unfoldable pub ends_here : Areas → RingLine → Bool
ends_here areas line =
    (nat_le 1 line.desc_len && nat_le line.desc_len areas.desc_blocks)
    && (index_after areas line (line.desc_len - 1) == line.index)

-- how many maps a checkpoint has: the blocks before its superblock
abbrev pub map_blocks : RingLine → ℕ
map_blocks line = line.desc_len - 1

-- the block that is so many after the checkpoint's start
abbrev pub map_block : List ℕ → Areas → RingLine → ℕ → List ℕ
map_block image areas line j = ring_block image areas (index_after areas line j)

-- that block is a sound checkpoint map whose mappings fit
unfoldable pub is_map_after : List ℕ → Areas → RingLine → ℕ → Bool
is_map_after image areas line j = is_map (areas.desc_base + index_after areas line j) line.xid (map_block image areas line j)

-- the blocks before the superblock are such maps
unfoldable pub has_maps : List ℕ → Areas → RingLine → Bool
has_maps image areas line = list_all (is_map_after image areas line) (range_with_len 0 (map_blocks line))

-- the mappings of the first so many maps of a checkpoint
abbrev pub first_mappings : List ℕ → Areas → RingLine → ℕ → List Mapping
first_mappings image areas line n = flat_map (λ j. mappings_in (map_block image areas line j)) (range_with_len 0 n)

-- the mappings of a checkpoint
unfoldable pub mappings_of : List ℕ → Areas → RingLine → List Mapping
mappings_of image areas line = first_mappings image areas line (map_blocks line)

-- each mapping has a size of whole blocks and starts in the data area
unfoldable pub are_placed : Areas → List Mapping → Bool
are_placed areas mappings = list_all (is_placed areas) mappings

-- from each mapping's first block on stands a sound object of its kind and oid
unfoldable pub have_objects : List ℕ → Areas → ℕ → List Mapping → Bool
have_objects image areas xid mappings = list_all (has_object image areas xid) mappings

-- the oids of mappings
abbrev pub ids_of : List Mapping → List ℕ
ids_of mappings = map (λ (m : Mapping). m.oid) mappings

-- no oid is mapped twice
unfoldable pub have_ids_once : List Mapping → Bool
have_ids_once mappings = is_distinct (ids_of mappings)

-- the data blocks of all mappings
abbrev pub blocks_of : Areas → List Mapping → List ℕ
blocks_of areas mappings = flat_map (mapped_blocks areas) mappings

-- no data block is in two mappings
unfoldable pub have_blocks_once : Areas → List Mapping → Bool
have_blocks_once areas mappings = is_distinct (blocks_of areas mappings)

-- mappings that are placed, each in blocks of its own, and of different oids
unfoldable pub are_apart : Areas → List Mapping → Bool
are_apart areas mappings = (are_placed areas mappings && have_ids_once mappings) && have_blocks_once areas mappings

-- a candidate ends at its superblock, has sound maps before it, and its mappings are placed and apart
unfoldable pub has_mappings : List ℕ → Areas → RingLine → Bool
has_mappings image areas line = (ends_here areas line && has_maps image areas line) && are_apart areas (mappings_of image areas line)

-- a valid candidate
unfoldable pub is_valid : List ℕ → Areas → RingLine → Bool
is_valid image areas line = has_mappings image areas line && have_objects image areas line.xid (mappings_of image areas line)
