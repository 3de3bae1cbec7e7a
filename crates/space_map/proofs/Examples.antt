-- The numbers of the five block sizes, and places of chunks.
use Rattle.std.specs.Prelude.{◌≡◌, ℕ, true, false, List, [], ◌∷◌, ◌++◌, map, replicate, refl}
use Rattle.std.specs.List.{range_with_len}
use Rattle.apfs_model.specs.Bytes.{u32_at, u64_at, bit_at}
use Rattle.apfs_model.specs.Blocks.{block_of}
use Rattle.obj_base.specs.declared.site.Site.{Site}
use Rattle.space_map.specs.Fields.{unit_of, chunk_blocks_of, cib_chunks_of, cab_cibs_of, blocks_of, chunks_of, cibs_of, cabs_of, addresses_of}
use Rattle.space_map.specs.Geometry.{chunk_len, most_chunks, most_cibs, is_shaped, has_units, has_rooms, has_numbers, has_addresses}
use Rattle.space_map.specs.Chunks.{chunk_from}
use Rattle.space_map.specs.Marks.{is_marked_in, free_in}
use Rattle.space_map.specs.Tests.{share, is_chunk, is_free_count}
use Rattle.space_map.specs.declared.chunk.Chunk.{Chunk}

abbrev sizes : List ℕ
sizes = 4096 ∷ 8192 ∷ 16384 ∷ 32768 ∷ 65536 ∷ []

pub blocks_per_chunk : map chunk_len sizes ≡ 32768 ∷ 65536 ∷ 131072 ∷ 262144 ∷ 524288 ∷ []
blocks_per_chunk = refl

pub chunks_per_cib : map most_chunks sizes ≡ 126 ∷ 254 ∷ 510 ∷ 1022 ∷ 2046 ∷ []
chunks_per_cib = refl

pub cibs_per_cab : map most_cibs sizes ≡ 507 ∷ 1019 ∷ 2043 ∷ 4091 ∷ 8187 ∷ []
cibs_per_cab = refl

-- 300 chunks by 126 fall to three blocks; a fourth would have none
pub shares : map (share 300 126) (range_with_len 0 4) ≡ 126 ∷ 126 ∷ 48 ∷ 0 ∷ []
shares = refl

abbrev site : ℕ → ℕ → Site
site block_size blocks = record { block_size = block_size; blocks = blocks; max_xid = 1 }

abbrev chunk : ℕ → ℕ → Chunk
chunk first blocks = record { first = first; blocks = blocks; free = 3; bitmap = 1 }

-- the last chunk of 40,000 blocks has what is left, and is another one where blocks are larger
pub last_chunk : is_chunk (site 4096 40000) 1 (chunk 32768 7232) ≡ true
unfolding is_chunk
last_chunk = refl

pub whole_chunk : is_chunk (site 4096 40000) 1 (chunk 32768 32768) ≡ false
unfolding is_chunk
whole_chunk = refl

pub large_chunk : is_chunk (site 8192 40000) 0 (chunk 0 40000) ≡ true
unfolding is_chunk
large_chunk = refl

-- chunk 1 in bytes; of its number of blocks the low 20 bits count
pub read_chunk : chunk_from (replicate 8 7 ++ (0 ∷ 0x80 ∷ 0 ∷ 0 ∷ 0 ∷ 0 ∷ 0 ∷ 0 ∷ 0x40 ∷ 0x1c ∷ 0 ∷ 0xf0 ∷ 3 ∷ 0 ∷ 0 ∷ 0 ∷ 1 ∷ 0 ∷ 0 ∷ 0 ∷ 0 ∷ 0 ∷ 0 ∷ 0 ∷ [])) 0 ≡ chunk 32768 7232
unfolding chunk_from u32_at u64_at
read_chunk = refl

-- an image of two blocks of 2 bytes, of which the second is a bitmap: 0xfb and 0xff
abbrev image : List ℕ
image = 0 ∷ 0 ∷ 0xfb ∷ 0xff ∷ []

-- of ten blocks the third is free; without a bitmap all are
pub one_free : free_in 2 image (chunk 0 10) ≡ 1
unfolding free_in is_marked_in bit_at block_of
one_free = refl

pub all_free : free_in 2 image (record { first = 0; blocks = 10; free = 3; bitmap = 0 }) ≡ 10
unfolding free_in is_marked_in bit_at block_of
all_free = refl

pub other_count : is_free_count 2 image (chunk 0 10) ≡ false
unfolding is_free_count free_in is_marked_in bit_at block_of
other_count = refl

-- a number of 32 bits, the lowest byte first
abbrev word : ℕ → ℕ → List ℕ
word low high = low ∷ high ∷ 0 ∷ 0 ∷ []

-- a manager of 256 blocks of 4,096 bytes: one chunk, one chunk-info block, no chunk-info address block, and one address at an offset
abbrev manager : ℕ → List ℕ
manager at =
    replicate 32 0 ++ (word 0 0x10 ++ (word 0 0x80 ++ (word 126 0 ++ (word 0xfb 1
    ++ (word 0 1 ++ (word 0 0 ++ (word 1 0 ++ (word 0 0 ++ (word 1 0 ++ (word 0 0
    ++ (word 199 0 ++ (word 0 0 ++ (word at 0 ++ replicate 12 0)))))))))))))

pub shaped : is_shaped (site 4096 256) (manager 88) ≡ true
unfolding is_shaped has_units has_rooms has_numbers has_addresses unit_of chunk_blocks_of cib_chunks_of cab_cibs_of blocks_of chunks_of cibs_of cabs_of addresses_of u32_at u64_at
shaped = refl

-- the address leaves the manager
pub address_outside : is_shaped (site 4096 256) (manager 89) ≡ false
unfolding is_shaped has_units has_rooms has_numbers has_addresses unit_of chunk_blocks_of cib_chunks_of cab_cibs_of blocks_of chunks_of cibs_of cabs_of addresses_of u32_at u64_at
address_outside = refl

-- the same manager doesn't fit blocks of 8,192 bytes, nor a container of more blocks
pub other_size : is_shaped (site 8192 256) (manager 88) ≡ false
unfolding is_shaped has_units has_rooms has_numbers has_addresses unit_of chunk_blocks_of cib_chunks_of cab_cibs_of blocks_of chunks_of cibs_of cabs_of addresses_of u32_at u64_at
other_size = refl

pub more_blocks : is_shaped (site 4096 257) (manager 88) ≡ false
unfolding is_shaped has_units has_rooms has_numbers has_addresses unit_of chunk_blocks_of cib_chunks_of cab_cibs_of blocks_of chunks_of cibs_of cabs_of addresses_of u32_at u64_at
more_blocks = refl
