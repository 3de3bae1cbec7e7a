-- What a walk over the tree of a free queue gives, and what stops it.
use Rattle.std.specs.Prelude.{◌≡◌, ℕ, ◌==◌, true, false, List, [], ◌∷◌, length, Some, if◌then◌else◌}
use Rattle.apfs_model.specs.Lists.{In}
use Rattle.bt_cursor.specs.declared.fault.WalkFault.{WalkFault}
use Rattle.bt_cursor.specs.declared.fault.WalkFault.TheVariants as walks
use Rattle.bt_cursor.specs.declared.gathering.GatherFault.{GatherFault}
use Rattle.bt_cursor.specs.declared.gathering.GatherFault.TheVariants as gathers
use Rattle.bt_cursor.specs.Line.{Item}
use Rattle.bt_cursor.specs.WholeTree.{leaf_pairs}
use Rattle.bt_cursor.specs.Met.{nodes_of}
use Rattle.bt_cursor.specs.Steps.{steps_in}
use Rattle.bt_cursor.specs.declared.step.Step.{Step}
use Rattle.bt_cursor.specs.Faults.{IsNodeFault, IsWalkFault}
use Rattle.nx_ring.specs.Checkpoint.{Seen}
use Rattle.space_pool.specs.Queues.{queue_entries_in, queue_entries, queue_tree, ephemeral_named, is_queued_in_pool}
use Rattle.space_pool.specs.Stops.{HasShortItem, is_right_tree}
use Rattle.space_pool.specs.declared.entry.Queue.{Queue}
use Rattle.space_pool.specs.declared.entry.Queue.TheVariants.{Pool}
use Rattle.space_pool.specs.declared.entry.QueueEntry.{QueueEntry}
use Rattle.space_pool.specs.declared.fault.PoolFault.{PoolFault}
use Rattle.space_pool.specs.declared.fault.PoolFault.TheVariants.{Index, Count, Place, Unnamed, Walk, Value}

-- the entry that an item gives: that of an entry of a leaf
abbrev pub entries_at : Item → List QueueEntry
entries_at item = queue_entries_in (leaf_pairs (item ∷ []))

-- these are the entries that some items give, and the steps among them
pub record Gathers (entries : List QueueEntry) (steps : List Step) (items : List Item) : Type 0 where
  pub same : entries ≡ queue_entries_in (leaf_pairs items)
  pub taken : steps ≡ steps_in items

-- why a walk stops, said of a queue whose root stands in a block
abbrev pub walk_said : ℕ → WalkFault → PoolFault
walk_said block (walks.Unsound at why) = Walk block (walks.Unsound at why)
walk_said block (walks.Unnamed oid) = Unnamed oid
walk_said block (walks.Order item) = Walk block (walks.Order item)
walk_said block walks.Counts = Walk block walks.Counts

-- an item that is refused has a value that is too short
abbrev pub said : ℕ → GatherFault → PoolFault
said block (gathers.Tree why) = walk_said block why
said block (gathers.Refused item) = Value block item

-- what is named of the tree of a root is there
abbrev pub IsTreeFault : List ℕ → Seen → ℕ → PoolFault → Type 0
IsTreeFault image seen root (Index i) = ⊥
IsTreeFault image seen root Count = ⊥
IsTreeFault image seen root (Place block) = ⊥
IsTreeFault image seen root (Unnamed oid) = IsNodeFault (queue_tree image seen) root (walks.Unnamed oid)
IsTreeFault image seen root (Walk block why) = (ephemeral_named seen root ≡ Some block) × IsWalkFault (queue_tree image seen) root why
IsTreeFault image seen root (Value block item) = (ephemeral_named seen root ≡ Some block) × HasShortItem image seen root item

-- the tree of a root is right, and these are its entries
pub record AreEntries (image : List ℕ) (seen : Seen) (root : ℕ) (entries : List QueueEntry) : Type 0 where
  pub right : is_right_tree image seen root ≡ true
  pub same : entries ≡ queue_entries image seen root

-- the number of nodes of the tree of a root, each as often as it is met; 0 where the root is 0
unfoldable pub queue_nodes : List ℕ → Seen → ℕ → ℕ
queue_nodes image seen root = if root == 0 then 0 else length (nodes_of (queue_tree image seen) root)

-- an entry is one of those of the pool's queue, and leaves the pool
pub record IsOutside (manager : List ℕ) (entries : List QueueEntry) (block : ℕ) : Type 0 where
  pub entry : QueueEntry
  pub one : In entry entries
  pub outside : is_queued_in_pool manager entry ≡ false
  pub same : block ≡ entry.paddr

-- Place: the fault of a queue whose entries are these
abbrev pub IsPlaceFault : List ℕ → Queue → List QueueEntry → PoolFault → Type 0
IsPlaceFault manager which entries (Index i) = ⊥
IsPlaceFault manager which entries Count = ⊥
IsPlaceFault manager which entries (Place block) = (which ≡ Pool) × IsOutside manager entries block
IsPlaceFault manager which entries (Unnamed oid) = ⊥
IsPlaceFault manager which entries (Walk root why) = ⊥
IsPlaceFault manager which entries (Value root item) = ⊥
