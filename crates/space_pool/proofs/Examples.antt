-- The indexes of a pool's bitmap, and entries of queues.
use Rattle.std.specs.Prelude.{◌≡◌, ℕ, true, false, List, [], ◌∷◌, ◌++◌, map, replicate, Option, Some, None, refl}
use Rattle.std.specs.List.{range_with_len}
use Rattle.apfs_model.specs.Bytes.{u16_at, u32_at, u64_at}
use Rattle.bt_node.specs.Entries.{Pair}
use Rattle.bt_keys.specs.Values.{queue_length_of}
use Rattle.space_map.specs.Fields.{pool_blocks_of, pool_base_of, pool_bitmap_blocks_of, ring_blocks_of, indexes_of}
use Rattle.space_pool.specs.Bits.{index_at, is_pool_index, has_index}
use Rattle.space_pool.specs.Queues.{queue_entry_of, queue_entries_in, is_queued_in_pool}
use Rattle.space_pool.specs.declared.entry.QueueEntry.{QueueEntry}

-- a number of 32 bits, the lowest byte first
abbrev word : ℕ → List ℕ
word n = n ∷ 0 ∷ 0 ∷ 0 ∷ []

-- a manager: a pool of 8 blocks from 10 on, a bitmap of 3 blocks, a ring of 4 blocks from 4 on, and the indexes 2, 4 and 2 at its end
abbrev manager : List ℕ
manager =
    replicate 152 0
    ++ (word 8 ++ (word 0 ++ (word 3 ++ (word 4 ++ (word 4 ++ (word 0 ++ (word 10 ++ (word 0
    ++ (replicate 144 0 ++ (0x4c ∷ 1 ∷ 0 ∷ 0 ∷ 2 ∷ 0 ∷ 4 ∷ 0 ∷ 2 ∷ 0 ∷ []))))))))))

-- the first index is right, the second leaves the ring, and the third equals the first
pub indexes : map (is_pool_index manager) (range_with_len 0 3) ≡ true ∷ false ∷ false ∷ []
unfolding is_pool_index index_at indexes_of ring_blocks_of u16_at u32_at
indexes = refl

-- there is no fourth
pub no_fourth : map (has_index manager) (range_with_len 0 4) ≡ true ∷ true ∷ true ∷ false ∷ []
unfolding has_index indexes_of pool_bitmap_blocks_of u32_at
no_fourth = refl

abbrev entry : ℕ → ℕ → QueueEntry
entry paddr length = record { xid = 5; paddr = paddr; length = length }

-- an entry of the pool, one that begins before it, one that ends after it, and one without blocks
pub queued : map (is_queued_in_pool manager) (entry 10 8 ∷ entry 9 2 ∷ entry 17 2 ∷ entry 200 0 ∷ []) ≡ true ∷ false ∷ false ∷ true ∷ []
unfolding is_queued_in_pool pool_base_of pool_blocks_of u64_at
queued = refl

-- an entry of a queue's tree
abbrev pair : ℕ → Option (List ℕ) → Pair
pair paddr value = record { key = word 5 ++ (word 0 ++ (word paddr ++ word 0)); value = value }

-- an entry without a value has one block
pub ghost : queue_entries_in (pair 60 None ∷ pair 62 (Some (word 3 ++ word 0)) ∷ []) ≡ entry 60 1 ∷ entry 62 3 ∷ []
unfolding queue_entry_of queue_length_of u64_at
ghost = refl
