-- What is live from the space manager of a container whose space is right.
use Rattle.std.specs.Prelude.{ℕ, List, [], ◌∷◌, ◌++◌, flat_map}
use Rattle.nx_block.specs.Super.{space_oid_of}
use Rattle.nx_ring.specs.Checkpoint.{Seen, site_of}
use Rattle.space_map.specs.Stops.{HasManager, IsRightSpace}
use Rattle.reach_rules.specs.declared.naming.Object.TheVariants.{OfId}
use Rattle.reach_rules.specs.declared.naming.Namer.{Namer}
use Rattle.reach_rules.specs.declared.naming.Namer.TheVariants.{Whole}
use Rattle.reach_rules.specs.declared.naming.Naming.{Naming}
use Rattle.reach_rules.specs.Next.{address_namings}
use Rattle.reach_gather.specs.Joined.{ArePart}
use Rattle.reach_gather.specs.Container.{pool_queue_naming, main_queue_naming, block_namings, manager_naming}

-- the space manager, as who names
abbrev pub manager_namer : List ℕ → Namer
manager_namer nx = Whole (OfId (space_oid_of nx))

-- the namings of the blocks that tell of chunks
abbrev pub blocks_namings : List ℕ → Seen → List ℕ → List Naming
blocks_namings image seen manager = flat_map (block_namings image seen) (address_namings (manager_namer seen.nx) manager)

-- of a right space these are live from the naming of its manager: it, the trees of its queues, and the blocks that tell of chunks
abbrev pub IsSpacePart : List ℕ → Seen → Type 0
IsSpacePart image seen =
    (manager : List ℕ) (block : ℕ) (pool main : List Naming)
    → HasManager seen manager block
    → IsRightSpace image (site_of seen) manager
    → ArePart image seen (pool_queue_naming (manager_namer seen.nx) manager) pool []
    → ArePart image seen (main_queue_naming (manager_namer seen.nx) manager) main []
    → ArePart image seen (manager_naming seen.nx ∷ []) (manager_naming seen.nx ∷ pool ++ (main ++ blocks_namings image seen manager)) []
