-- How many places a walk over a view meets.
use Rattle.std.proofs.Common.{◌≡◌, ℕ, true, false, Bool, List, length, refl, arith}
use Rattle.std.specs.Prelude.{if◌then◌else◌}
use Rattle.obj_base.specs.declared.site.Site.{Site}
use Rattle.bt_cursor.specs.Tree.{Tree}
use Rattle.bt_cursor.specs.Line.{line_of}
use Rattle.bt_cursor.specs.Met.{places_of, nodes_of, is_walkable}
use Rattle.bt_cursor.proofs.Walkables.{nodes-passed}
use Rattle.fs_name.specs.Normal.{are_hashed}
use Rattle.vol_view.specs.Placed.{view_nodes}
use Rattle.vol_view.specs.Volumes.{Loaded}
use Rattle.vol_view.specs.Views.{hashed_tree, plain_tree, is_view_walkable}
use Rattle.vol_view.specs.declared.volume.View.{View}
use Rattle.view_change.specs.Difference.{view_places}

-- in a walkable tree each place that is met has a node
places-tree : {K : Type 0} (tree : Tree K) (root : ℕ) → is_walkable tree root ≡ true → length (places_of tree root) ≡ length (nodes_of tree root)
places-tree tree root all = let met = nodes-passed tree root (line_of tree root) all refl in omega (arith, met)

places-if : {K L : Type 0} (b : Bool) (tree : Tree K) (other : Tree L) (root : ℕ) → (if b then is_walkable tree root else is_walkable other root) ≡ true
    → length (if b then places_of tree root else places_of other root) ≡ length (if b then nodes_of tree root else nodes_of other root)
places-if true tree other root all = places-tree tree root all
places-if false tree other root all = places-tree other root all

-- so it is in a walkable view
pub places-nodes : (image : List ℕ) (site : Site) (volume : Loaded) (view : View) → is_view_walkable image site volume view ≡ true → length (view_places image site volume view) ≡ length (view_nodes image site volume view)
unfolding view_places view_nodes is_view_walkable
places-nodes image site volume view all = places-if (are_hashed volume.names) (hashed_tree image site volume view) (plain_tree image site volume view) view.root_oid all
