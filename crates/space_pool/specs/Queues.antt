-- Free queues (Space Manager, spaceman_free_queue_t).
use Rattle.std.specs.Prelude.{ℕ, Bool, true, ◌&&◌, ◌||◌, ◌==◌, List, [], length, filter_map, Option, None, option_map, option_and_then, is_none, if◌then◌else◌}
use Rattle.std.specs.List.{list_all}
use Rattle.apfs_model.specs.Blocks.{is_within, in_container}
use Rattle.bt_node.specs.Entries.{Pair}
use Rattle.obj_base.specs.declared.site.Site.{Site}
use Rattle.bt_keys.specs.declared.number_key.QueueKey.{QueueKey}
use Rattle.bt_keys.specs.Shapes.{queue_shape}
use Rattle.bt_keys.specs.Values.{queue_length_of}
use Rattle.bt_cursor.specs.Tree.{Tree, tree_in}
use Rattle.bt_cursor.specs.Flat.{flat_of}
use Rattle.bt_cursor.specs.Line.{Item, is_leaf_item}
use Rattle.bt_cursor.specs.Steps.{steps_of}
use Rattle.bt_cursor.specs.declared.step.Step.{Step}
use Rattle.nx_ring.specs.Objects.{Place}
use Rattle.nx_ring.specs.Checkpoint.{Seen, eph, site_of}
use Rattle.space_map.specs.Fields.{pool_queue_of, main_queue_of, pool_base_of, pool_blocks_of}
use Rattle.space_pool.specs.declared.entry.Queue.{Queue}
use Rattle.space_pool.specs.declared.entry.Queue.TheVariants.{Pool, Main}
use Rattle.space_pool.specs.declared.entry.QueueEntry.{QueueEntry}

-- the block of an object of one block, where it is one of the container
abbrev pub one_block : Site → Place → Option ℕ
one_block site place = if length place.bytes == site.block_size then in_container site.blocks place.block else None

-- the block that an ephemeral id names, where the checkpoint maps it to an object of one block
unfoldable pub ephemeral_named : Seen → ℕ → Option ℕ
ephemeral_named seen oid = option_and_then (one_block (site_of seen)) (eph seen oid)

-- the trees of free queues
abbrev pub queue_tree : List ℕ → Seen → Tree QueueKey
queue_tree image seen = tree_in queue_shape (site_of seen) (ephemeral_named seen) image

-- the root of a queue's tree, an ephemeral oid, 0 where the queue has none
abbrev pub queue_root : Queue → List ℕ → ℕ
queue_root Pool manager = pool_queue_of manager
queue_root Main manager = main_queue_of manager

-- an entry: the transaction, the first block, and the length
abbrev pub entry_by : QueueKey → ℕ → QueueEntry
entry_by k length = record { xid = k.xid; paddr = k.paddr; length = length }

-- the queue's entry of a tree's entry; without a value it has one block
unfoldable pub queue_entry_of : Pair → Option QueueEntry
queue_entry_of pair = option_and_then (λ (k : QueueKey). option_map (entry_by k) (queue_length_of pair.value)) (queue_shape.read pair.key)

-- the queue's entries of a tree's entries, in their order
abbrev pub queue_entries_in : List Pair → List QueueEntry
queue_entries_in pairs = filter_map queue_entry_of pairs

-- the entries of the tree of a root, in tree order, none where the root is 0
unfoldable pub queue_entries : List ℕ → Seen → ℕ → List QueueEntry
queue_entries image seen root = if root == 0 then [] else queue_entries_in (flat_of (queue_tree image seen) root)

-- the steps of the tree of a root, none where the root is 0
unfoldable pub queue_steps : List ℕ → Seen → ℕ → List Step
queue_steps image seen root = if root == 0 then [] else steps_of (queue_tree image seen) root

-- the entries of a queue
abbrev pub queue_of : List ℕ → Seen → List ℕ → Queue → List QueueEntry
queue_of image seen manager which = queue_entries image seen (queue_root which manager)

-- Place: an entry of the pool's queue lies in the pool; one without blocks leaves nothing
unfoldable pub is_queued_in_pool : List ℕ → QueueEntry → Bool
is_queued_in_pool manager e = (e.length == 0) || is_within e.paddr e.length (pool_base_of manager) (pool_blocks_of manager)

-- the entries of a queue lie in the pool, if it is the pool's queue
abbrev pub are_queued_in_pool : Queue → List ℕ → List QueueEntry → Bool
are_queued_in_pool Pool manager entries = list_all (is_queued_in_pool manager) entries
are_queued_in_pool Main manager entries = true

-- an item of the Line is an entry whose value is too short
unfoldable pub is_short_item : Item → Bool
is_short_item item = is_leaf_item item && is_none (queue_length_of item.pair.value)
