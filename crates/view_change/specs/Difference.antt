-- How a view of a volume differs from the one before.
use Rattle.std.specs.Prelude.{◌≡◌, ℕ, ◌+◌, List, length, if◌then◌else◌}
use Rattle.obj_base.specs.declared.site.Site.{Site}
use Rattle.bt_node.specs.declared.node.NodeAt.{NodeAt}
use Rattle.bt_keys.specs.Shapes.{fs_shape}
use Rattle.bt_cursor.specs.Met.{places_of}
use Rattle.fs_name.specs.Normal.{are_hashed}
use Rattle.vol_view.specs.Volumes.{Loaded}
use Rattle.vol_view.specs.Views.{view_named, hashed_tree, plain_tree}
use Rattle.vol_view.specs.declared.volume.View.{View}
use Rattle.view_facts.specs.Kept.{IsGatheredView}
use Rattle.view_facts.specs.declared.gathering.ViewFacts.{ViewFacts}
use Rattle.view_change.specs.declared.leaf.Leaf.{Leaf}
use Rattle.view_change.specs.declared.kept_view.KeptView.{KeptView}
use Rattle.view_change.specs.Leaves.{leaves_at, uppers_in}
use Rattle.view_change.specs.Shared.{new_leaves}
use Rattle.view_change.specs.Kept.{facts_of, records_kept, IsKeptView}

-- the places that a walk over a view meets, each as often as it is met: those of its nodes where each of them has a node
unfoldable pub view_places : List ℕ → Site → Loaded → View → List NodeAt
view_places image site volume view =
    if are_hashed volume.names then places_of (hashed_tree image site volume view) view.root_oid
    else places_of (plain_tree image site volume view) view.root_oid

-- the leaves of a view, in their order
abbrev pub view_leaves : List ℕ → Site → Loaded → View → List Leaf
view_leaves image site volume view = leaves_at site (view_named site volume view) (view_places image site volume view)

-- the places of the nodes of a view above its leaves
abbrev pub view_uppers : List ℕ → Site → Loaded → View → List NodeAt
view_uppers image site volume view = uppers_in (view_places image site volume view)

-- how many nodes a view has, each as often as it is met, but for those leaves that the view before has, which are these
abbrev pub new_nodes : List ℕ → Site → Loaded → View → List Leaf → ℕ
new_nodes image site volume view before = length (view_uppers image site volume view) + length (new_leaves before (view_leaves image site volume view))

-- the facts and the number of records of what is kept of a view
abbrev pub gathered_of : KeptView → ViewFacts
gathered_of kept = record { facts = facts_of kept; records = records_kept kept }

-- this is what is kept of a view of a volume whose names are hashed, with all of its leaves; its tree is whole, and its records can be read
pub record IsKeptOf (image : List ℕ) (site : Site) (volume : Loaded) (view : View) (kept : KeptView) : Type 0 where
  pub leaves : List Leaf
  pub all : leaves ≡ view_leaves image site volume view
  pub leaves_kept : IsKeptView fs_shape site image volume.names leaves kept
  pub gathered : IsGatheredView image site volume view (gathered_of kept)
