-- The trees of each kind are walked as their nodes are named.
use Rattle.std.proofs.Common.{◌≡◌, ℕ, true, List, Option, Some, None, refl, ap, sym, subst}
use Rattle.std.specs.Prelude.{option_map, option_and_then, if◌then◌else◌}
use Rattle.apfs_model.specs.Blocks.{in_container}
use Rattle.bt_node.specs.Shape.{Shape}
use Rattle.obj_base.specs.declared.site.Site.{Site}
use Rattle.bt_keys.specs.Shapes.{omap_shape, omap_snap_shape, queue_shape, ext_shape, snap_shape}
use Rattle.nx_ring.specs.Objects.{Place}
use Rattle.nx_ring.specs.Checkpoint.{Seen, site_of, eph}
use Rattle.space_pool.specs.declared.entry.Queue.{Queue}
use Rattle.space_pool.specs.Queues.{one_block, ephemeral_named}
use Rattle.reach_rules.specs.declared.naming.LookUp.TheVariants.{ByBlock, ByMapping}
use Rattle.reach_rules.specs.declared.naming.Object.TheVariants.{InBlock, OfId}
use Rattle.reach_rules.specs.declared.naming.TreeKind.{TreeKind}
use Rattle.reach_rules.specs.declared.naming.TreeKind.TheVariants.{MapRecords, MapSnapshots, ExtentRefs, SnapMetadata, FreeQueue}
use Rattle.reach_rules.specs.declared.naming.Expected.{Expected}
use Rattle.reach_rules.specs.Resolved.{Found, standing, is_node, mapped, mapped_node}
use Rattle.reach_rules.specs.Trees.{tree_line, misplaced, has_counts}
use Rattle.reach_rules.proofs.Walks.{IsWalkOf}
use Rattle.reach_rules.proofs.Looks.{records-walk, snapshots-walk, metadata-walk, extents-walk, standing-by}
use Rattle.reach_rules.proofs.QueuesLifted.{queue-walk}
use Rattle.reach_gather.specs.Laws.{NamingsOfSteps}
use Rattle.reach_gather.specs.Namings.{tree_steps}
use Rattle.reach_gather.specs.Walked.{has_all_nodes}
use Rattle.reach_gather.proofs.Law.{IsTreeOf, tree-lives}
use Rattle.reach_gather.proofs.Walking.{IsKindOf}

-- what is found by a block is the object in it
pub physical-tree : {K : Type 0} (image : List ℕ) (seen : Seen) (kind : TreeKind) (shape : Shape K) → IsWalkOf image seen kind ByBlock shape (in_container (site_of seen).blocks) → IsTreeOf image seen kind ByBlock InBlock shape (in_container (site_of seen).blocks)
physical-tree image seen kind shape walk = record {
  walk = walk;
  objects = λ e oid f node s. ap (λ (x : Found). x.object) (standing-by image (site_of seen) oid f s);
  unmarked = λ oid. refl;
}

-- what is found by an ephemeral id is the object of that id
pub standing-of : (image : List ℕ) (site : Site) (oid : ℕ) (o : Option ℕ) (f : Found) → option_map (standing image site (OfId oid)) o ≡ Some f → f.object ≡ OfId oid
standing-of image site oid None f h = absurd (let z : ◌≡◌ {A = Option Found} None (Some f) = h in let q : ⊥ = cc in q)
standing-of image site oid (Some b) f h =
    let z : ◌≡◌ {A = Option Found} (Some (standing image site (OfId oid) b)) (Some f) = h in
    let s : standing image site (OfId oid) b ≡ f = cc in
    ap (λ (x : Found). x.object) (sym s)

node-of-id : (image : List ℕ) (site : Site) (e : Expected) (oid : ℕ) (o : Option Place) (f : Found) → is_node e ≡ true →
    option_and_then (λ (place : Place). if is_node e then mapped_node image site oid place else mapped site oid place) o ≡ Some f → f.object ≡ OfId oid
node-of-id image site e oid None f node h = absurd (let z : ◌≡◌ {A = Option Found} None (Some f) = h in let q : ⊥ = cc in q)
node-of-id image site e oid (Some place) f node h =
    standing-of image site oid (one_block site place) f (subst (λ b. (if b then mapped_node image site oid place else mapped site oid place) ≡ Some f) node h)

pub queue-tree : (image : List ℕ) (seen : Seen) (which : Queue) → IsTreeOf image seen (FreeQueue which) ByMapping OfId queue_shape (ephemeral_named seen)
queue-tree image seen which = record {
  walk = queue-walk image seen which;
  objects = λ e oid f node s. node-of-id image (site_of seen) e oid (eph seen oid) f node s;
  unmarked = λ oid. refl;
}

-- the law, for each kind
pub of-steps : NamingsOfSteps
unfolding tree_steps
of-steps = record {
  records = λ image seen n e how. (tree-lives image seen MapRecords InBlock omap_shape (in_container (site_of seen).blocks) n (subst (λ h. IsTreeOf image seen MapRecords h InBlock omap_shape (in_container (site_of seen).blocks)) (sym how) (physical-tree image seen MapRecords omap_shape (records-walk image seen))) e).live;
  snapshots = λ image seen n e how. (tree-lives image seen MapSnapshots InBlock omap_snap_shape (in_container (site_of seen).blocks) n (subst (λ h. IsTreeOf image seen MapSnapshots h InBlock omap_snap_shape (in_container (site_of seen).blocks)) (sym how) (physical-tree image seen MapSnapshots omap_snap_shape (snapshots-walk image seen))) e).live;
  extents = λ image seen n e how. (tree-lives image seen ExtentRefs InBlock ext_shape (in_container (site_of seen).blocks) n (subst (λ h. IsTreeOf image seen ExtentRefs h InBlock ext_shape (in_container (site_of seen).blocks)) (sym how) (physical-tree image seen ExtentRefs ext_shape (extents-walk image seen))) e).live;
  metadata = λ image seen n e how. (tree-lives image seen SnapMetadata InBlock snap_shape (in_container (site_of seen).blocks) n (subst (λ h. IsTreeOf image seen SnapMetadata h InBlock snap_shape (in_container (site_of seen).blocks)) (sym how) (physical-tree image seen SnapMetadata snap_shape (metadata-walk image seen))) e).live;
  queues = λ image seen which n e how. (tree-lives image seen (FreeQueue which) OfId queue_shape (ephemeral_named seen) n (subst (λ h. IsTreeOf image seen (FreeQueue which) h OfId queue_shape (ephemeral_named seen)) (sym how) (queue-tree image seen which)) e).live;
}

-- the trees of each kind
pub records-kind : (image : List ℕ) (seen : Seen) → IsKindOf image seen MapRecords ByBlock InBlock omap_shape (in_container (site_of seen).blocks)
unfolding tree_line misplaced has_counts has_all_nodes tree_steps
records-kind image seen = record { tree = physical-tree image seen MapRecords omap_shape (records-walk image seen); line = λ root. refl; order = λ root. refl; count = λ root. refl; nodes = λ root. refl; steps = λ root. refl }

pub snapshots-kind : (image : List ℕ) (seen : Seen) → IsKindOf image seen MapSnapshots ByBlock InBlock omap_snap_shape (in_container (site_of seen).blocks)
unfolding tree_line misplaced has_counts has_all_nodes tree_steps
snapshots-kind image seen = record { tree = physical-tree image seen MapSnapshots omap_snap_shape (snapshots-walk image seen); line = λ root. refl; order = λ root. refl; count = λ root. refl; nodes = λ root. refl; steps = λ root. refl }

pub metadata-kind : (image : List ℕ) (seen : Seen) → IsKindOf image seen SnapMetadata ByBlock InBlock snap_shape (in_container (site_of seen).blocks)
unfolding tree_line misplaced has_counts has_all_nodes tree_steps
metadata-kind image seen = record { tree = physical-tree image seen SnapMetadata snap_shape (metadata-walk image seen); line = λ root. refl; order = λ root. refl; count = λ root. refl; nodes = λ root. refl; steps = λ root. refl }

pub extents-kind : (image : List ℕ) (seen : Seen) → IsKindOf image seen ExtentRefs ByBlock InBlock ext_shape (in_container (site_of seen).blocks)
unfolding tree_line misplaced has_counts has_all_nodes tree_steps
extents-kind image seen = record { tree = physical-tree image seen ExtentRefs ext_shape (extents-walk image seen); line = λ root. refl; order = λ root. refl; count = λ root. refl; nodes = λ root. refl; steps = λ root. refl }

pub queue-kind : (image : List ℕ) (seen : Seen) (which : Queue) → IsKindOf image seen (FreeQueue which) ByMapping OfId queue_shape (ephemeral_named seen)
unfolding tree_line misplaced has_counts has_all_nodes tree_steps
queue-kind image seen which = record { tree = queue-tree image seen which; line = λ root. refl; order = λ root. refl; count = λ root. refl; nodes = λ root. refl; steps = λ root. refl }
