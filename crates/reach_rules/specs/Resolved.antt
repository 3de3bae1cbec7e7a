-- What a naming resolves to.
use Rattle.std.specs.Prelude.{ℕ, Bool, true, false, List, Option, option_map, option_and_then, if◌then◌else◌}
use Rattle.apfs_model.specs.Blocks.{block_of, in_container}
use Rattle.obj_base.specs.declared.site.Site.{Site}
use Rattle.nx_block.specs.Super.{omap_oid_of}
use Rattle.nx_ring.specs.Objects.{Place}
use Rattle.nx_ring.specs.Checkpoint.{Seen, eph, site_of}
use Rattle.omap_map.specs.Maps.{resolved_in}
use Rattle.omap_map.specs.declared.records.OmapRecord.{OmapRecord}
use Rattle.space_pool.specs.Queues.{one_block}
use Rattle.reach_rules.specs.Naming.{LookUp, ByBlock, ByMapping, InContainer, InView, Object, InBlock, OfId, OfRecord, Expected, SpaceManager, ContainerMap, ReaperObject, ReapList, Jumpstart, VolumeIn, VolumeMap, ExtendedMetadata, SnapshotSuper, AddressBlock, InfoBlock, TreeRoot, TreeNode, Naming}

-- what is found: the object, its first block, and its bytes
pub record Found : Type 0 where
  pub object : Object
  pub block : ℕ
  pub bytes : List ℕ

-- an object of one block
abbrev pub standing : List ℕ → Site → Object → ℕ → Found
standing image site object block = record { object = object; block = block; bytes = block_of site.block_size image block }

-- a physical id is a block, which must be one of the container
abbrev pub found_physical : List ℕ → Site → ℕ → Option Found
found_physical image site oid = option_map (λ block. standing image site (InBlock block) block) (in_container site.blocks oid)

-- a node of a tree is expected
abbrev pub is_node : Expected → Bool
is_node (TreeRoot kind) = true
is_node (TreeNode kind level) = true
is_node SpaceManager = false
is_node ContainerMap = false
is_node ReaperObject = false
is_node ReapList = false
is_node Jumpstart = false
is_node (VolumeIn slot) = false
is_node VolumeMap = false
is_node ExtendedMetadata = false
is_node (SnapshotSuper view) = false
is_node (AddressBlock i) = false
is_node (InfoBlock i) = false

-- the mapped object of an ephemeral id, of any number of blocks, where its first block is one of the container
abbrev pub mapped : Site → ℕ → Place → Option Found
mapped site oid place = option_map (λ block. record { object = OfId oid; block = block; bytes = place.bytes }) (in_container site.blocks place.block)

-- the mapped node of an ephemeral id, which must be one block of the container
abbrev pub mapped_node : List ℕ → Site → ℕ → Place → Option Found
mapped_node image site oid place = option_map (standing image site (OfId oid)) (one_block site place)

-- an ephemeral id stands in the checkpoint's mappings
abbrev pub found_ephemeral : List ℕ → Seen → Expected → ℕ → Option Found
found_ephemeral image seen expected oid =
    option_and_then (λ (place : Place). if is_node expected then mapped_node image (site_of seen) oid place else mapped (site_of seen) oid place) (eph seen oid)

-- the object of a record of the object map in a block, where the record gives a block of the container
abbrev pub recorded : List ℕ → Site → ℕ → OmapRecord → Option Found
recorded image site map r = option_map (standing image site (OfRecord map r)) (in_container site.blocks r.paddr)

-- a virtual id is looked up in the object map of a block, at a transaction
abbrev pub found_virtual : List ℕ → Site → ℕ → ℕ → ℕ → Option Found
found_virtual image site map x oid = option_and_then (recorded image site map) (resolved_in image site map oid x)

-- what an id names by a look-up
abbrev pub found_by : List ℕ → Seen → LookUp → Expected → ℕ → Option Found
found_by image seen ByBlock expected oid = found_physical image (site_of seen) oid
found_by image seen ByMapping expected oid = found_ephemeral image seen expected oid
found_by image seen InContainer expected oid = found_virtual image (site_of seen) (omap_oid_of seen.nx) seen.line.xid oid
found_by image seen (InView view) expected oid = found_virtual image (site_of seen) view.map view.xid oid

-- what a naming resolves to, and nothing where it doesn't
unfoldable pub resolved : List ℕ → Seen → Naming → Option Found
resolved image seen n = found_by image seen n.how n.expected n.oid
