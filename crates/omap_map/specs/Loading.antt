-- What a loaded object map is, and how the tests of its object make one answer.
use Rattle.std.specs.Prelude.{◌≡◌, ℕ, ◌+◌, Bool, true, false, ◌&&◌, ◌||◌, ◌==◌, List, length, Option, None, Result, Ok, Err, if◌then◌else◌, nat_lt, AllPairs, ◌≤◌}
use Rattle.apfs_model.specs.Lists.{In}
use Rattle.obj_base.specs.declared.header.Header.{Header}
use Rattle.obj_base.specs.declared.header.HeadFault.{HeadFault}
use Rattle.obj_base.specs.declared.stop.Bad.{Bad}
use Rattle.obj_base.specs.declared.stop.Bad.TheVariants as bads
use Rattle.obj_base.specs.declared.stop.Feature.TheVariants.{Revert}
use Rattle.obj_base.specs.declared.stop.Stop.{Stop}
use Rattle.obj_base.specs.declared.stop.Stop.TheVariants as stops
use Rattle.obj_base.specs.declared.stop.Unsound.{Unsound}
use Rattle.obj_base.specs.declared.site.Site.{Site}
use Rattle.bt_cursor.specs.Met.{nodes_of}
use Rattle.omap_map.specs.Fields.{tree_of, snap_tree_of}
use Rattle.omap_map.specs.Resolve.{named_by}
use Rattle.omap_map.specs.Features.{is_reverting}
use Rattle.omap_map.specs.declared.records.OmapRecord.{OmapRecord}
use Rattle.omap_map.specs.declared.fault.OmapFault.{OmapFault}
use Rattle.omap_map.specs.declared.fault.OmapFault.TheVariants.{Head}
use Rattle.omap_map.specs.Maps.{Contents, contents_of, has_no_snapshots, head_of, is_whole_map, map_in, map_records, record_tree, snapshot_tree}
use Rattle.omap_map.specs.Records.{is_deleted}

-- how many nodes the two trees of a map have, each counted as often as it is met
unfoldable pub map_nodes : List ℕ → Site → ℕ → ℕ
map_nodes image site block =
    length (nodes_of (record_tree image site) (tree_of (map_in image site block)))
    + (if has_no_snapshots (map_in image site block) then 0 else length (nodes_of (snapshot_tree image site) (snap_tree_of (map_in image site block))))

-- the block that an oid names at x through the map in a block
unfoldable pub named_in : List ℕ → Site → ℕ → ℕ → ℕ → Option ℕ
named_in image site block x oid = if is_whole_map image site block then named_by (map_records image site block) x site.blocks oid else None

-- a test of the map's object that fails, said of the map
abbrev pub head_fault : Unsound HeadFault → OmapFault
head_fault unsound = Head unsound.block unsound.why

-- a fault of the header is one of the map; a feature of the header stands in the map's block
abbrev pub of_header : ℕ → Bad HeadFault → Stop OmapFault
of_header block (bads.Found why) = stops.Found (Head block why)
of_header block (bads.Unsupported feature) = stops.Unsupported feature block

-- the map's bytes where no revert is pending
abbrev pub unless_reverting : ℕ → List ℕ → Result (List ℕ) (Stop OmapFault)
unless_reverting block bytes = if is_reverting bytes then Err (stops.Unsupported Revert block) else Ok bytes

-- the bytes of a map with this header, or why they stop
abbrev pub after_header : ℕ → List ℕ → Result Header (Bad HeadFault) → Result (List ℕ) (Stop OmapFault)
after_header block bytes (Ok _) = unless_reverting block bytes
after_header block bytes (Err bad) = Err (of_header block bad)

-- the object of the map in a block: its bytes, or the first test that fails, those of the header before that of a pending revert
unfoldable pub object_of : List ℕ → Site → ℕ → Result (List ℕ) (Stop OmapFault)
object_of image site block = after_header block (map_in image site block) (head_of image site block)

-- the map in a block is whole, no revert of it is pending, and this is what it has
pub record IsLoaded (image : List ℕ) (site : Site) (block : ℕ) (contents : Contents) : Type 0 where
  pub whole : is_whole_map image site block ≡ true
  pub settled : is_reverting (map_in image site block) ≡ false
  pub same : contents ≡ contents_of image site block

-- a record comes before another in its tree: by the oid, then by the transaction
abbrev pub is_before : OmapRecord → OmapRecord → Bool
is_before r s = nat_lt r.oid s.oid || ((r.oid == s.oid) && nat_lt r.xid s.xid)

-- the records of a tree: each comes before all that follow it
abbrev pub IsAscending : List OmapRecord → Type 0
IsAscending records = AllPairs (λ r s. is_before r s ≡ true) records

-- the facts of the record that an oid resolves to at x: it is one of the map's, of the oid, early enough, the last of these, and not marked deleted
pub record IsResolved (records : List OmapRecord) (oid x : ℕ) (r : OmapRecord) : Type 0 where
  pub one : In r records
  pub same : r.oid ≡ oid
  pub early : r.xid ≤ x
  pub last : (s : OmapRecord) → In s records → s.oid ≡ oid → s.xid ≤ x → s.xid ≤ r.xid
  pub kept : is_deleted r.flags ≡ false
