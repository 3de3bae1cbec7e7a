-- Whether the trees of a container are in order and counted, and their values long enough; those of views' files aside.
use Rattle.std.specs.Prelude.{◌≡◌, ℕ, ◌<◌, Bool, true, false, List, [], length, slice_get, Option, None, Some}
use Rattle.apfs_model.specs.Counts.{given}
use Rattle.apfs_model.specs.Lists.{passes}
use Rattle.bt_cursor.specs.Line.{Item, line_of}
use Rattle.bt_cursor.specs.Order.{out_of_order}
use Rattle.bt_cursor.specs.Counts.{is_counted}
use Rattle.bt_keys.specs.Shapes.{omap_shape, omap_snap_shape, queue_shape, ext_shape, snap_shape}
use Rattle.nx_ring.specs.Checkpoint.{Seen, site_of}
use Rattle.omap_map.specs.Maps.{record_tree, snapshot_tree}
use Rattle.vol_view.specs.SnapRecords.{metadata_tree}
use Rattle.ext_ref.specs.Ranges.{ext_tree}
use Rattle.ext_ref.specs.Stops as extents
use Rattle.space_pool.specs.Queues as queues
use Rattle.reach_rules.specs.Naming.{TreeKind, MapRecords, MapSnapshots, ExtentRefs, SnapMetadata, FreeQueue, Files, TreeRoot, Naming}
use Rattle.reach_rules.specs.Resolved.{Found}
use Rattle.reach_rules.specs.Live.{Names}

-- the Line of the tree of a root; a view's is not looked at here
unfoldable pub tree_line : List ℕ → Seen → TreeKind → ℕ → List Item
tree_line image seen MapRecords root = line_of (record_tree image (site_of seen)) root
tree_line image seen MapSnapshots root = line_of (snapshot_tree image (site_of seen)) root
tree_line image seen ExtentRefs root = line_of (ext_tree image (site_of seen)) root
tree_line image seen SnapMetadata root = line_of (metadata_tree image (site_of seen)) root
tree_line image seen (FreeQueue which) root = line_of (queues.queue_tree image seen) root
tree_line image seen (Files hashed) root = []

-- Order: the number of the first item of a tree that is out of order
unfoldable pub misplaced : List ℕ → Seen → TreeKind → ℕ → Option ℕ
misplaced image seen MapRecords root = out_of_order omap_shape (tree_line image seen MapRecords root)
misplaced image seen MapSnapshots root = out_of_order omap_snap_shape (tree_line image seen MapSnapshots root)
misplaced image seen ExtentRefs root = out_of_order ext_shape (tree_line image seen ExtentRefs root)
misplaced image seen SnapMetadata root = out_of_order snap_shape (tree_line image seen SnapMetadata root)
misplaced image seen (FreeQueue which) root = out_of_order queue_shape (tree_line image seen (FreeQueue which) root)
misplaced image seen (Files hashed) root = None

-- Counts: the root's numbers of keys and of nodes are right
unfoldable pub has_counts : List ℕ → Seen → TreeKind → ℕ → Bool
has_counts image seen MapRecords root = is_counted (record_tree image (site_of seen)) root
has_counts image seen MapSnapshots root = is_counted (snapshot_tree image (site_of seen)) root
has_counts image seen ExtentRefs root = is_counted (ext_tree image (site_of seen)) root
has_counts image seen SnapMetadata root = is_counted (metadata_tree image (site_of seen)) root
has_counts image seen (FreeQueue which) root = is_counted (queues.queue_tree image seen) root
has_counts image seen (Files hashed) root = true

-- Record: the value of an item is too short, in a tree of extent references or a free queue
abbrev pub is_short : TreeKind → Item → Bool
is_short MapRecords item = false
is_short MapSnapshots item = false
is_short ExtentRefs item = extents.is_short_item item
is_short SnapMetadata item = false
is_short (FreeQueue which) item = queues.is_short_item item
is_short (Files hashed) item = false

-- the item of a number is one with such a value
abbrev pub is_short_at : List ℕ → Seen → TreeKind → ℕ → ℕ → Bool
is_short_at image seen kind root number = passes (slice_get (tree_line image seen kind root) number) (is_short kind)

-- the root of a tree of a kind is named, and stands in a block
pub record NamesRoot (image : List ℕ) (seen : Seen) (kind : TreeKind) (n : Naming) (block : ℕ) : Type 0 where
  pub object : Found
  pub names : Names image seen n object
  pub root : n.expected ≡ TreeRoot kind
  pub at : block ≡ object.block

-- the tree of a root is in order and counted, and no value in it is too short
pub record IsRightTree (image : List ℕ) (seen : Seen) (kind : TreeKind) (root : ℕ) : Type 0 where
  pub ordered : misplaced image seen kind root ≡ None
  pub counted : has_counts image seen kind root ≡ true
  pub long : (number : ℕ) → number < length (tree_line image seen kind root) → is_short_at image seen kind root number ≡ false

-- Order: in a tree whose root is named and stands in a block, this is the number of the first item out of order, as it is given
pub record IsMisplaced (image : List ℕ) (seen : Seen) (block item : ℕ) : Type 0 where
  pub kind : TreeKind
  pub naming : Naming
  pub root : NamesRoot image seen kind naming block
  pub number : ℕ
  pub first : misplaced image seen kind naming.oid ≡ Some number
  pub same : item ≡ given number

-- Counts: in a tree whose root is named and stands in a block, the root's numbers are wrong
pub record IsMiscounted (image : List ℕ) (seen : Seen) (block : ℕ) : Type 0 where
  pub kind : TreeKind
  pub naming : Naming
  pub root : NamesRoot image seen kind naming block
  pub wrong : has_counts image seen kind naming.oid ≡ false

-- Record: in a tree whose root is named and stands in a block, the value of an item of this number, as it is given, is too short
pub record IsShort (image : List ℕ) (seen : Seen) (block item : ℕ) : Type 0 where
  pub kind : TreeKind
  pub naming : Naming
  pub root : NamesRoot image seen kind naming block
  pub number : ℕ
  pub low : number < length (tree_line image seen kind naming.oid)
  pub short : is_short_at image seen kind naming.oid number ≡ true
  pub same : item ≡ given number
