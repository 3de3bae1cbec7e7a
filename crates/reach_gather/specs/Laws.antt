-- The laws of namings: of trees, and of the parts of a container.
use Rattle.std.specs.Prelude.{◌≡◌, ℕ, List, [], ◌∷◌}
use Rattle.apfs_model.specs.Lists.{Lists}
use Rattle.nx_ring.specs.Checkpoint.{Seen}
use Rattle.space_pool.specs.declared.entry.Queue.{Queue}
use Rattle.reach_rules.specs.declared.naming.LookUp.{LookUp}
use Rattle.reach_rules.specs.declared.naming.LookUp.TheVariants.{ByBlock, ByMapping}
use Rattle.reach_rules.specs.declared.naming.Object.{Object}
use Rattle.reach_rules.specs.declared.naming.Object.TheVariants.{InBlock, OfId}
use Rattle.reach_rules.specs.declared.naming.TreeKind.{TreeKind}
use Rattle.reach_rules.specs.declared.naming.TreeKind.TheVariants.{MapRecords, MapSnapshots, ExtentRefs, SnapMetadata, FreeQueue}
use Rattle.reach_rules.specs.declared.naming.Expected.TheVariants.{TreeRoot}
use Rattle.reach_rules.specs.declared.naming.Naming.{Naming}
use Rattle.reach_rules.specs.Next.{next}
use Rattle.reach_rules.specs.Live.{Live}
use Rattle.reach_gather.specs.Namings.{tree_steps, tree_namings}

-- what is live from the naming of a root are that naming and those of the steps of its tree
abbrev pub AreOfSteps : List ℕ → Seen → LookUp → (ℕ → Object) → TreeKind → Type 0
AreOfSteps image seen how object kind =
    (n : Naming) → n.expected ≡ TreeRoot kind → n.how ≡ how → Lists (tree_namings object kind n (tree_steps image seen kind n.oid)) (Live (n ∷ []) (next image seen))

-- so it is of the trees whose nodes are physical or ephemeral
pub record NamingsOfSteps : Type 0 where
  pub records : (image : List ℕ) (seen : Seen) → AreOfSteps image seen ByBlock InBlock MapRecords
  pub snapshots : (image : List ℕ) (seen : Seen) → AreOfSteps image seen ByBlock InBlock MapSnapshots
  pub extents : (image : List ℕ) (seen : Seen) → AreOfSteps image seen ByBlock InBlock ExtentRefs
  pub metadata : (image : List ℕ) (seen : Seen) → AreOfSteps image seen ByBlock InBlock SnapMetadata
  pub queues : (image : List ℕ) (seen : Seen) (which : Queue) → AreOfSteps image seen ByMapping OfId (FreeQueue which)
