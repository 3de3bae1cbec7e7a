-- The namings of the parts of a container that are lists of their own: object maps, chunk-info address blocks, and what names nothing.
use Rattle.std.specs.Prelude.{◌≡◌, ◌⊎◌, ℕ, List, [], ◌∷◌, ◌++◌, flat_map, Some}
use Rattle.apfs_model.specs.Lists.{Lists}
use Rattle.nx_ring.specs.Checkpoint.{Seen}
use Rattle.omap_map.specs.Fields as maps
use Rattle.reach_rules.specs.declared.naming.LookUp.TheVariants.{ByBlock}
use Rattle.reach_rules.specs.declared.naming.Object.TheVariants.{InBlock}
use Rattle.reach_rules.specs.declared.naming.Namer.{Namer}
use Rattle.reach_rules.specs.declared.naming.Namer.TheVariants.{Whole}
use Rattle.reach_rules.specs.declared.naming.TreeKind.{TreeKind}
use Rattle.reach_rules.specs.declared.naming.TreeKind.TheVariants.{MapRecords, MapSnapshots}
use Rattle.reach_rules.specs.declared.naming.Expected.{Expected}
use Rattle.reach_rules.specs.declared.naming.Expected.TheVariants.{ContainerMap, VolumeMap, Jumpstart, ExtendedMetadata, AddressBlock, InfoBlock, TreeRoot}
use Rattle.reach_rules.specs.declared.naming.Naming.{Naming}
use Rattle.reach_rules.specs.Naming.{naming}
use Rattle.reach_rules.specs.Resolved.{Found, resolved}
use Rattle.reach_rules.specs.Next.{next, unless_zero}
use Rattle.reach_rules.specs.Live.{Live, IsSoundFor}
use Rattle.reach_gather.specs.Namings.{tree_steps, tree_namings}

-- the namings of a tree of physical nodes, from that of its root on
abbrev pub physical_namings : List ℕ → Seen → TreeKind → Naming → List Naming
physical_namings image seen kind root = tree_namings InBlock kind root (tree_steps image seen kind root.oid)

-- the naming of a map's tree of records
abbrev pub records_naming : Namer → List ℕ → Naming
records_naming namer bytes = naming namer 48 (TreeRoot MapRecords) ByBlock (maps.tree_of bytes)

-- the namings of an object map: its own, and those of its trees
abbrev pub map_part : List ℕ → Seen → Naming → Found → List Naming
map_part image seen n f =
    n
    ∷ physical_namings image seen MapRecords (records_naming (Whole f.object) f.bytes)
    ++ flat_map (physical_namings image seen MapSnapshots) (unless_zero (Whole f.object) 56 (TreeRoot MapSnapshots) ByBlock (maps.snap_tree_of f.bytes))

-- an object map is expected
abbrev pub ExpectsMap : Expected → Type 0
ExpectsMap e = (e ≡ ContainerMap) ⊎ (e ≡ VolumeMap)

-- of a sound object map these are live
abbrev pub AreOfMap : List ℕ → Seen → Type 0
AreOfMap image seen = (n : Naming) (f : Found) → ExpectsMap n.expected → resolved image seen n ≡ Some f → IsSoundFor seen n f → Lists (map_part image seen n f) (Live (n ∷ []) (next image seen))

-- from a naming nothing but itself is live
abbrev pub IsAlone : List ℕ → Seen → Naming → Type 0
IsAlone image seen n = Lists (n ∷ []) (Live (n ∷ []) (next image seen))

-- the parts of a container that are lists of their own
pub record NamingsOfParts (image : List ℕ) (seen : Seen) : Type 0 where
  pub maps : AreOfMap image seen
  pub jumpstart : (n : Naming) → n.expected ≡ Jumpstart → IsAlone image seen n
  pub metadata : (n : Naming) → n.expected ≡ ExtendedMetadata → IsAlone image seen n
  pub infos : (n : Naming) (i : ℕ) → n.expected ≡ InfoBlock i → IsAlone image seen n
  pub addresses : (n : Naming) (i : ℕ) → n.expected ≡ AddressBlock i → Lists (n ∷ next image seen n) (Live (n ∷ []) (next image seen))
