-- The command `space`: the blocks that are in use and free, by chunk, in the pool and in the free queues.
use Rattle.std.specs.Prelude.{◌≡◌, ◌⊎◌, ◌++◌, ℕ, List, length, map, sum_by, codes, if◌then◌else◌}
use Rattle.std.specs.Fmt.{decimal}
use Rattle.std.specs.List.{flat_map, enumerate_from, range_with_len}
use Rattle.apfs_model.specs.Bytes.{bit_at}
use Rattle.apfs_model.specs.Counts.{given}
use Rattle.obj_base.specs.declared.stop.Feature.{Feature}
use Rattle.nx_ring.specs.Checkpoint.{Seen}
use Rattle.space_map.specs.declared.chunk.Chunk.{Chunk}
use Rattle.space_map.specs.declared.fault.SpaceFault.{SpaceFault}
use Rattle.space_map.specs.Fields.{free_of, pool_blocks_of}
use Rattle.space_map.specs.Stops.{Known, IsSpaceOf, IsSpaceFault, IsSpaceFeature}
use Rattle.space_pool.specs.declared.entry.Queue.{Queue}
use Rattle.space_pool.specs.declared.entry.Queue.TheVariants.{Pool, Main}
use Rattle.space_pool.specs.declared.entry.QueueEntry.{QueueEntry}
use Rattle.space_pool.specs.declared.fault.PoolFault.{PoolFault}
use Rattle.space_pool.specs.Stops.{ArePoolBits, AreQueued, IsPoolFault, IsQueueFault, IsQueueFeature}
use Rattle.reach_rules.specs.declared.fault.ReachFault.TheVariants as sweeps
use Rattle.apfs_check.specs.declared.fault.Fault.{Fault}
use Rattle.apfs_check.specs.Raised.{of_sweep}
use Rattle.cmd_texts.specs.Checkpoints.{IsNewest, IsCheckpointFault, IsCheckpointFeature}
use Rattle.cmd_lines.specs.Texts.{◌▹◌}

-- the blocks of the container, and those that are free
abbrev pub head_text : Known → List ℕ
head_text space = codes "blocks " ▹ decimal space.site.blocks ▹ codes " free " ▹ decimal (free_of space.manager) ▹ codes "\n"

-- a chunk by its number: its blocks, those that are free, and the block of its bitmap
abbrev pub chunk_text : ℕ × Chunk → List ℕ
chunk_text c =
    codes "chunk " ▹ decimal c.0 ▹ codes " blocks " ▹ decimal c.1.blocks ▹ codes " free " ▹ decimal c.1.free ▹ codes " bitmap " ▹ decimal c.1.bitmap ▹ codes "\n"

-- a line for each chunk
abbrev pub chunks_text : List Chunk → List ℕ
chunks_text chunks = flat_map chunk_text (enumerate_from 0 chunks)

-- how many of the first n bits aren't set
unfoldable pub free_in : List ℕ → ℕ → ℕ
free_in bits n = sum_by (λ marked. if marked then 0 else 1) (map (bit_at bits) (range_with_len 0 n))

-- the blocks of the pool, and those that aren't marked
abbrev pub pool_text : List ℕ → List ℕ → List ℕ
pool_text manager bits = codes "pool blocks " ▹ decimal (pool_blocks_of manager) ▹ codes " free " ▹ decimal (free_in bits (pool_blocks_of manager)) ▹ codes "\n"

-- how many blocks the entries of a queue have
abbrev pub blocks_in : List QueueEntry → ℕ
blocks_in entries = given (sum_by (λ (e : QueueEntry). e.length) entries)

-- the entries of a queue, and their blocks
abbrev pub queue_text : List ℕ → List QueueEntry → List ℕ
queue_text word entries = codes "queue " ▹ word ▹ codes " entries " ▹ decimal (length entries) ▹ codes " blocks " ▹ decimal (blocks_in entries) ▹ codes "\n"

-- all lines
abbrev pub space_text : Known → List ℕ → List QueueEntry → List QueueEntry → List ℕ
space_text space bits pool main =
    head_text space ++ chunks_text space.chunks ++ pool_text space.manager bits ++ queue_text (codes "pool") pool ++ queue_text (codes "main") main

-- what is told of the space of a container by its newest checkpoint: its chunks, the bits of its pool, and its two queues
pub record IsTold (image : List ℕ) (seen : Seen) (space : Known) (bits : List ℕ) (pool main : List QueueEntry) : Type 0 where
  pub newest : IsNewest image seen
  pub space_is : IsSpaceOf image seen space
  pub bits_are : ArePoolBits image seen space.manager bits
  pub pool_is : AreQueued image seen space.manager Pool pool
  pub main_is : AreQueued image seen space.manager Main main

-- the text
abbrev pub IsText : List ℕ → List ℕ → Type 0
IsText image text =
    (seen : Seen) × (space : Known) × (bits : List ℕ) × (pool : List QueueEntry) × (main : List QueueEntry) × IsTold image seen space bits pool main
    × (text ≡ space_text space bits pool main)

-- a fact of the space manager of a container whose space is right
abbrev pub OfSpace : List ℕ → (Seen → List ℕ → Type 0) → Type 0
OfSpace image P = (seen : Seen) × (space : Known) × IsNewest image seen × IsSpaceOf image seen space × P seen space.manager

-- a fault of the space manager, or of the blocks that tell of chunks
abbrev pub IsManagerFault : List ℕ → Fault → Type 0
IsManagerFault image fault = (seen : Seen) × (why : SpaceFault) × IsNewest image seen × IsSpaceFault image seen why × (fault ≡ of_sweep seen.line.xid (sweeps.Space why))

-- a fault of the pool, or of a free queue
abbrev pub IsSpacePoolFault : List ℕ → Fault → Type 0
IsSpacePoolFault image fault =
    OfSpace image (λ seen manager. (why : PoolFault) × (IsPoolFault seen manager why ⊎ ((which : Queue) × IsQueueFault image seen manager which why)) × (fault ≡ of_sweep seen.line.xid (sweeps.Pool why)))

-- the fault that is named
abbrev pub IsFault : List ℕ → Fault → Type 0
IsFault image fault = IsCheckpointFault image fault ⊎ (IsManagerFault image fault ⊎ IsSpacePoolFault image fault)

-- the feature that is refused
abbrev pub IsFeature : List ℕ → Feature → ℕ → Type 0
IsFeature image feature block =
    IsCheckpointFeature image feature block
    ⊎ (((seen : Seen) × IsNewest image seen × IsSpaceFeature image seen feature block)
    ⊎ OfSpace image (λ seen manager. (which : Queue) × IsQueueFeature image seen manager which feature block))
