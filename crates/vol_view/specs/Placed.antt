-- What is known of the heads of volumes, and of a view's nodes and records.
use Rattle.std.specs.Prelude.{◌≡◌, ℕ, ◌<◌, Bool, List, Option, Some, if◌then◌else◌}
use Rattle.apfs_model.specs.Blocks.{in_container}
use Rattle.apfs_model.specs.Lists.{In}
use Rattle.obj_base.specs.declared.site.Site.{Site}
use Rattle.nx_block.specs.Super.{slots}
use Rattle.nx_ring.specs.Checkpoint.{Seen, site_of}
use Rattle.vol_view.specs.declared.head.VolHead.{VolHead}
use Rattle.vol_view.specs.Heads.{heads_of}
use Rattle.bt_node.specs.declared.node.NodeAt.{NodeAt}
use Rattle.bt_cursor.specs.Met.{nodes_of}
use Rattle.bt_cursor.specs.From.{is_kind_whole}
use Rattle.fs_name.specs.Normal.{are_hashed}
use Rattle.vol_view.specs.Volumes.{Loaded}
use Rattle.vol_view.specs.declared.volume.View.{View}
use Rattle.vol_view.specs.Views.{hashed_tree, plain_tree}

-- a volume's slot is one of a container's, and the block of its superblock one of the container that an object may have
pub record IsPlaced (site : Site) (head : VolHead) : Type 0 where
  pub low : head.slot < slots
  pub inside : in_container site.blocks head.block ≡ Some head.block

-- a record is one of the heads of a container, as far as its bytes are told
pub record IsHead (bytes : Option (List ℕ)) (seen : Seen) (head : VolHead) : Type 0 where
  pub placed : IsPlaced (site_of seen) head
  pub one : (image : List ℕ) → bytes ≡ Some image → In head (heads_of image seen)

-- the nodes met in a view, in the order of its Line
unfoldable pub view_nodes : List ℕ → Site → Loaded → View → List NodeAt
view_nodes image site volume view =
    if are_hashed volume.names then nodes_of (hashed_tree image site volume view) view.root_oid
    else nodes_of (plain_tree image site volume view) view.root_oid

-- no record of an id and a kind is missing in a view: no gap stands in its tree where one may be
unfoldable pub has_all_records : List ℕ → Site → Loaded → View → ℕ → ℕ → Bool
has_all_records image site volume view id kind =
    if are_hashed volume.names then is_kind_whole (hashed_tree image site volume view) view.root_oid id kind
    else is_kind_whole (plain_tree image site volume view) view.root_oid id kind
