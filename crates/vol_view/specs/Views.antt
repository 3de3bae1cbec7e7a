-- The views of a volume: as it is, and as each snapshot keeps it.
use Rattle.std.specs.Prelude.{ℕ, Bool, true, false, List, ◌∷◌, map, position, bytes_eq, Option, if◌then◌else◌}
use Rattle.obj_base.specs.declared.stop.Feature.{Feature}
use Rattle.bt_node.specs.Shape.{Shape}
use Rattle.bt_node.specs.Entries.{Pair}
use Rattle.obj_base.specs.declared.site.Site.{Site}
use Rattle.bt_keys.specs.Shapes.{FsKey, fs_shape, FsPlainKey, fs_plain_shape}
use Rattle.bt_cursor.specs.Tree.{Tree, tree_in}
use Rattle.bt_cursor.specs.Flat.{flat_of}
use Rattle.bt_cursor.specs.Line.{Item, line_of}
use Rattle.bt_cursor.specs.Met.{is_walkable}
use Rattle.bt_cursor.specs.Order.{is_ordered}
use Rattle.bt_cursor.specs.Counts.{is_counted}
use Rattle.bt_cursor.specs.Whole.{is_whole}
use Rattle.bt_cursor.specs.Faults.{IsWalkFault, HasFeature}
use Rattle.bt_cursor.specs.declared.fault.WalkFault.{WalkFault}
use Rattle.fs_name.specs.Normal.{are_hashed}
use Rattle.nx_ring.specs.Checkpoint.{Seen, site_of}
use Rattle.omap_map.specs.Resolve.{named_by}
use Rattle.vol_view.specs.Volumes.{Loaded, loaded_of, sound_snapshots}
use Rattle.vol_view.specs.declared.head.VolHead.{VolHead}
use Rattle.vol_view.specs.declared.volume.Snapshot.{Snapshot}
use Rattle.vol_view.specs.declared.volume.View.{View}

-- the volume as it is, at the checkpoint's transaction
abbrev pub live_of : Loaded → Seen → View
live_of volume seen = record { slot = volume.head.slot; xid = seen.line.xid; root_oid = volume.root_oid }

-- the volume as a snapshot keeps it, at the snapshot's transaction
abbrev pub past_of : Loaded → Snapshot → View
past_of volume snapshot = record { slot = volume.head.slot; xid = snapshot.xid; root_oid = snapshot.root_oid }

-- the views of a volume: the live one, then one for each snapshot by transaction; views are told apart by their places here
abbrev pub views_of : Loaded → Seen → List View
views_of volume seen = live_of volume seen ∷ map (past_of volume) volume.snaps

-- the views of a volume that have a root: the live one, then one for each snapshot whose superblock is sound
abbrev pub rooted_views : List ℕ → Seen → VolHead → List View
rooted_views image seen head =
    live_of (loaded_of image (site_of seen) head) seen
    ∷ map (past_of (loaded_of image (site_of seen) head)) (sound_snapshots image (site_of seen) head)

-- the place of the snapshot of a name, byte by byte
unfoldable pub by_name_of : Loaded → List ℕ → Option ℕ
by_name_of volume name = position (λ (s : Snapshot). bytes_eq s.name name) volume.snaps

-- the block that a virtual id names in a view: it is looked up in the volume's map at the view's transaction
abbrev pub view_named : Site → Loaded → View → ℕ → Option ℕ
view_named site volume view oid = named_by volume.omap.records view.xid site.blocks oid

-- the file-system tree of a view, under keys of a shape
abbrev pub view_tree : {K : Type 0} → Shape K → List ℕ → Site → Loaded → View → Tree K
view_tree shape image site volume view = tree_in shape site (view_named site volume view) image

-- the file-system tree of a view, with hashed names
abbrev pub hashed_tree : List ℕ → Site → Loaded → View → Tree FsKey
hashed_tree image site volume view = view_tree fs_shape image site volume view

-- the file-system tree of a view, with names that aren't hashed
abbrev pub plain_tree : List ℕ → Site → Loaded → View → Tree FsPlainKey
plain_tree image site volume view = view_tree fs_plain_shape image site volume view

-- the records of a view, in order; whether a snapshot's view has hashed names is by the live volume's features
unfoldable pub view_flat : List ℕ → Site → Loaded → View → List Pair
view_flat image site volume view =
    if are_hashed volume.names then flat_of (hashed_tree image site volume view) view.root_oid
    else flat_of (plain_tree image site volume view) view.root_oid

-- the Line of a view
unfoldable pub view_line : List ℕ → Site → Loaded → View → List Item
view_line image site volume view =
    if are_hashed volume.names then line_of (hashed_tree image site volume view) view.root_oid
    else line_of (plain_tree image site volume view) view.root_oid

-- a view whose tree is walkable
unfoldable pub is_view_walkable : List ℕ → Site → Loaded → View → Bool
is_view_walkable image site volume view =
    if are_hashed volume.names then is_walkable (hashed_tree image site volume view) view.root_oid
    else is_walkable (plain_tree image site volume view) view.root_oid

-- a view whose Line is ordered
abbrev pub is_view_ordered : List ℕ → Site → Loaded → View → Bool
is_view_ordered image site volume view =
    if are_hashed volume.names then is_ordered fs_shape (view_line image site volume view)
    else is_ordered fs_plain_shape (view_line image site volume view)

-- a view whose root has the right numbers of keys and of nodes
unfoldable pub is_view_counted : List ℕ → Site → Loaded → View → Bool
is_view_counted image site volume view =
    if are_hashed volume.names then is_counted (hashed_tree image site volume view) view.root_oid
    else is_counted (plain_tree image site volume view) view.root_oid

-- a view whose tree is whole: walkable, ordered and counted
unfoldable pub is_view_whole : List ℕ → Site → Loaded → View → Bool
is_view_whole image site volume view =
    if are_hashed volume.names then is_whole (hashed_tree image site volume view) view.root_oid
    else is_whole (plain_tree image site volume view) view.root_oid

-- one fact where a test holds, and another where it doesn't
abbrev pub FactBy : Bool → Type 0 → Type 0 → Type 0
FactBy true P Q = P
FactBy false P Q = Q

-- what a walk of a view names is there
abbrev pub IsViewFault : List ℕ → Site → Loaded → View → WalkFault → Type 0
IsViewFault image site volume view fault =
    FactBy (are_hashed volume.names)
    (IsWalkFault (hashed_tree image site volume view) view.root_oid fault)
    (IsWalkFault (plain_tree image site volume view) view.root_oid fault)

-- a feature of a node of a view is there, in this block
abbrev pub IsViewFeature : List ℕ → Site → Loaded → View → Feature → ℕ → Type 0
IsViewFeature image site volume view feature block =
    FactBy (are_hashed volume.names)
    (HasFeature (hashed_tree image site volume view) view.root_oid feature block)
    (HasFeature (plain_tree image site volume view) view.root_oid feature block)
