-- Which tests a named object must pass.
use Rattle.std.specs.Prelude.{ℕ, Bool, true, false, List, Option, None, Some, Result, Ok, Err, if◌then◌else◌}
use Rattle.apfs_model.specs.Object.{space_kind, cab_kind, cib_kind, map_kind, volume_kind, reaper_kind, reap_list_kind, jumpstart_kind, extended_metadata_kind}
use Rattle.obj_base.specs.Sound.{sound_of, expecting}
use Rattle.obj_base.specs.declared.header.Header.{Header}
use Rattle.obj_base.specs.declared.header.HeadFault.{HeadFault}
use Rattle.obj_base.specs.declared.stop.Bad.{Bad}
use Rattle.obj_base.specs.declared.stop.Bad.TheVariants.{Found, Unsupported}
use Rattle.obj_base.specs.declared.site.Site.{Site}
use Rattle.bt_node.specs.declared.node.NodeAt.{NodeAt}
use Rattle.bt_node.specs.declared.fault.NodeFault.{NodeFault}
use Rattle.bt_node.specs.declared.fault.NodeFault.TheVariants.{Head}
use Rattle.bt_node.specs.Soundness.{node_of}
use Rattle.bt_keys.specs.Shapes.{omap_shape, omap_snap_shape, queue_shape, ext_shape, snap_shape, fs_shape, fs_plain_shape}
use Rattle.nx_block.specs.Jump.{is_jump}
use Rattle.vol_view.specs.Heads.{has_magic}
use Rattle.reach_rules.specs.declared.fault.Why.{Why}
use Rattle.reach_rules.specs.declared.fault.Why.TheVariants.{Node, Magic}
use Rattle.reach_rules.specs.Naming.{TreeKind, MapRecords, MapSnapshots, ExtentRefs, SnapMetadata, FreeQueue, Files, Expected, SpaceManager, ContainerMap, ReaperObject, ReapList, Jumpstart, VolumeIn, VolumeMap, ExtendedMetadata, SnapshotSuper, AddressBlock, InfoBlock, TreeRoot, TreeNode}

-- the answer of an object's tests: its bytes, or the first test that fails
abbrev pub Answer : Type 0
Answer = Result (List ℕ) (Bad Why)

-- what the tests of a node of a tree say
abbrev pub node_answer : TreeKind → NodeAt → Site → List ℕ → Result (List ℕ) (Bad NodeFault)
node_answer MapRecords at site bytes = node_of omap_shape at site bytes
node_answer MapSnapshots at site bytes = node_of omap_snap_shape at site bytes
node_answer ExtentRefs at site bytes = node_of ext_shape at site bytes
node_answer SnapMetadata at site bytes = node_of snap_shape at site bytes
node_answer (FreeQueue which) at site bytes = node_of queue_shape at site bytes
node_answer (Files true) at site bytes = node_of fs_shape at site bytes
node_answer (Files false) at site bytes = node_of fs_plain_shape at site bytes

-- the answer of a node's tests, said of a named object
abbrev pub of_node : Result (List ℕ) (Bad NodeFault) → Answer
of_node (Ok bytes) = Ok bytes
of_node (Err (Found why)) = Err (Found (Node why))
of_node (Err (Unsupported feature)) = Err (Unsupported feature)

-- what the tests of a node of a tree say of a named object
abbrev pub node_tested : TreeKind → NodeAt → Site → List ℕ → Answer
node_tested kind at site bytes = of_node (node_answer kind at site bytes)

-- a failing test of a header, said of a named object
abbrev pub of_header : List ℕ → Result Header (Bad HeadFault) → Answer
of_header bytes (Ok header) = Ok bytes
of_header bytes (Err (Found why)) = Err (Found (Node (Head why)))
of_header bytes (Err (Unsupported feature)) = Err (Unsupported feature)

-- what the tests of a header say, of an object of a kind and maybe an oid
abbrev pub head_tested : Site → ℕ → Option ℕ → List ℕ → Answer
head_tested site kind oid bytes = of_header bytes (sound_of bytes (expecting kind oid site.max_xid))

-- Magic: the test that comes after those of the header
abbrev pub with_magic : (List ℕ → Bool) → Answer → Answer
with_magic magic (Ok bytes) = if magic bytes then Ok bytes else Err (Found Magic)
with_magic magic (Err bad) = Err bad

-- what the tests of an object say, by what is expected of it and by its id; a snapshot's superblock may have any oid
unfoldable pub tested : Site → Expected → ℕ → List ℕ → Answer
tested site SpaceManager oid bytes = head_tested site space_kind (Some oid) bytes
tested site ContainerMap oid bytes = head_tested site map_kind (Some oid) bytes
tested site ReaperObject oid bytes = head_tested site reaper_kind (Some oid) bytes
tested site ReapList oid bytes = head_tested site reap_list_kind (Some oid) bytes
tested site Jumpstart oid bytes = with_magic is_jump (head_tested site jumpstart_kind (Some oid) bytes)
tested site (VolumeIn slot) oid bytes = with_magic has_magic (head_tested site volume_kind (Some oid) bytes)
tested site VolumeMap oid bytes = head_tested site map_kind (Some oid) bytes
tested site ExtendedMetadata oid bytes = head_tested site extended_metadata_kind (Some oid) bytes
tested site (SnapshotSuper view) oid bytes = with_magic has_magic (head_tested site volume_kind None bytes)
tested site (AddressBlock i) oid bytes = head_tested site cab_kind (Some oid) bytes
tested site (InfoBlock i) oid bytes = head_tested site cib_kind (Some oid) bytes
tested site (TreeRoot kind) oid bytes = node_tested kind (record { oid = oid; root = true; level = None }) site bytes
tested site (TreeNode kind level) oid bytes = node_tested kind (record { oid = oid; root = false; level = Some level }) site bytes
