-- What the parts and the views of a container tell of its account: names, trees, features, and the owners of which there is a block.
use Rattle.std.specs.Prelude.{◌≡◌, ◌⊎◌, ℕ, Bool, false, not, ◌==◌, List, [], filter}
use Rattle.apfs_model.specs.Lists.{In, Lists}
use Rattle.obj_base.specs.declared.stop.Within.{Within}
use Rattle.nx_ring.specs.Checkpoint.{Seen, site_of}
use Rattle.nx_ring.specs.Features.{container_features}
use Rattle.omap_map.specs.Maps.{map_records}
use Rattle.omap_map.specs.Records.{is_deleted}
use Rattle.omap_map.specs.declared.records.OmapRecord.{OmapRecord}
use Rattle.reach_rules.specs.declared.naming.TreeKind.{TreeKind}
use Rattle.reach_rules.specs.declared.naming.Expected.TheVariants.{TreeRoot}
use Rattle.reach_rules.specs.declared.naming.Naming.{Naming}
use Rattle.reach_rules.specs.declared.owner.Owner.{Owner}
use Rattle.reach_rules.specs.Owners.{IsOwner}
use Rattle.reach_rules.specs.PoolOwners.{IsPoolOwner}
use Rattle.reach_rules.specs.Maps.{IsMapOf}
use Rattle.reach_rules.specs.Trees.{IsRightTree}
use Rattle.reach_rules.specs.Accounted.{AreNamed, AreInOrder, IsPlain}
use Rattle.reach_rules.specs.Reached.{HasBlocks}
use Rattle.reach_gather.specs.ViewParts.{ResolvesTo, AreJoined}

-- each record of an object map that isn't marked deleted is one that views use, or one to which another naming resolves
abbrev pub AreCovered : List ℕ → Seen → List Naming → List (ℕ × OmapRecord) → Type 0
AreCovered image seen all records =
    (within : Within) (map : ℕ) → IsMapOf image seen within map
    → (r : OmapRecord) → In r (map_records image (site_of seen) map) → is_deleted r.flags ≡ false
    → In (map, r) records ⊎ ((n : Naming) × (In n all × ResolvesTo image seen n (map, r)))

-- the trees whose roots are named apart from views are in order and counted, with values that can be read
abbrev pub AreRightTrees : List ℕ → Seen → List Naming → Type 0
AreRightTrees image seen all = (n : Naming) (kind : TreeKind) → In n all → n.expected ≡ TreeRoot kind → IsRightTree image seen kind n.oid

-- an owner of one block or more
abbrev pub has_blocks : Owner → Bool
has_blocks a = not (a.blocks == 0)

-- what a container with its views tells of the account
pub record AccountTold (image : List ℕ) (seen : Seen) : Type 0 where
  pub names : (all views : List Naming) (records : List (ℕ × OmapRecord)) → AreJoined image seen all views records → AreCovered image seen all records → AreNamed image seen
  pub trees : (all views : List Naming) (records : List (ℕ × OmapRecord)) → AreJoined image seen all views records → AreRightTrees image seen all → AreInOrder image seen
  pub plain : (all views : List Naming) (records : List (ℕ × OmapRecord)) → AreJoined image seen all views records → container_features seen.nx ≡ [] → IsPlain image seen
  pub owners : (owners : List Owner) → Lists owners (IsOwner image seen) → Lists (filter has_blocks owners) (HasBlocks (IsOwner image seen))
  pub pool_owners : (owners : List Owner) → Lists owners (IsPoolOwner image seen) → Lists (filter has_blocks owners) (HasBlocks (IsPoolOwner image seen))
