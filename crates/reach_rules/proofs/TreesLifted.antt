-- What is told of a physical tree whose root is named is present in the container: of object maps, their snapshots, snapshot metadata and extent references.
use Rattle.std.proofs.Common.{◌≡◌, ℕ, ◌<◌, Bool, true, false, List, [], length, Option, Some, None, Result, Ok, Err, inl, inr, refl, ap, sym, ◌∙◌, subst, arith}
use Rattle.std.specs.Prelude.{slice_get, option_map, option_and_then, flat_map}
use Rattle.apfs_model.specs.Blocks.{in_container}
use Rattle.apfs_model.specs.Lists.{through, value_of, passes}
use Rattle.obj_base.specs.declared.stop.Stop.{Stop}
use Rattle.obj_base.specs.declared.stop.Stop.TheVariants.{Found as Fails}
use Rattle.obj_base.specs.declared.stop.Within.TheVariants.{Physical}
use Rattle.bt_node.specs.Shape.{Shape}
use Rattle.bt_node.specs.Node.{level_of}
use Rattle.obj_base.specs.declared.site.Site.{Site}
use Rattle.bt_cursor.specs.declared.fault.WalkFault.{WalkFault}
use Rattle.bt_cursor.specs.declared.fault.WalkFault.TheVariants as walks
use Rattle.bt_cursor.specs.Tree.{Tree, root_place, node_named, tree_in}
use Rattle.bt_cursor.specs.Line.{Item, entries_of, line_of, line_part}
use Rattle.bt_cursor.specs.Flat.{flat_of}
use Rattle.bt_cursor.specs.Met.{nodes_of}
use Rattle.bt_cursor.specs.Order.{out_of_order}
use Rattle.bt_cursor.specs.Counts as counts
use Rattle.bt_cursor.specs.Faults.{IsWalkFault}
use Rattle.nx_ring.specs.Checkpoint.{Seen, site_of}
use Rattle.reach_rules.specs.Naming.{ByBlock, InBlock, TreeKind, MapRecords, MapSnapshots, SnapMetadata, ExtentRefs, Naming}
use Rattle.reach_rules.specs.Resolved.{Found, resolved, standing, found_physical, found_by}
use Rattle.reach_rules.specs.Trees.{tree_line, misplaced, has_counts, is_short_at, NamesRoot}
use Rattle.bt_keys.specs.Shapes.{omap_shape, omap_snap_shape, snap_shape, ext_shape}
use Rattle.bt_keys.specs.declared.record_key.ExtKey.{ExtKey}
use Rattle.omap_map.specs.Maps.{record_tree, snapshot_tree}
use Rattle.vol_view.specs.SnapRecords.{metadata_tree}
use Rattle.ext_ref.specs.Ranges.{ext_tree}
use Rattle.ext_ref.specs.Stops.{is_short_item, IsExtStop}
use Rattle.ext_ref.specs.declared.stop.ExtStop.{ExtStop}
use Rattle.ext_ref.specs.declared.stop.ExtStop.TheVariants as exts
use Rattle.reach_rules.specs.Faults.{Present}
use Rattle.reach_rules.specs.Raised.{of_walk, of_extents}
use Rattle.apfs_model.proofs.Searches.{passing-below}
use Rattle.reach_rules.proofs.Walks.{IsWalkOf, IsRootNaming, walk-present}
use Rattle.reach_rules.proofs.Looks.{records-walk, snapshots-walk, metadata-walk, extents-walk, standing-by}
use Rattle.reach_rules.proofs.NamesDecided.{found_or}

-- a root of physical nodes that is found stands in the block of its number
root-block : (image : List ℕ) (seen : Seen) (kind : TreeKind) (root : ℕ) (r : IsRootNaming image seen kind ByBlock root) (f : Found) → resolved image seen r.naming ≡ Some f → f.block ≡ root
unfolding resolved
root-block image seen kind root r f e =
    let n : Naming = r.naming in
    let found : found_physical image (site_of seen) n.oid ≡ Some f =
    subst (λ h. found_by image seen h n.expected n.oid ≡ Some f) r.how_is e in
    ap (λ (x : Found). x.block) (standing-by image (site_of seen) n.oid f found) ∙ r.oid_is

-- where a block isn't found, a walk finds no node in it
nothing-there : {K : Type 0} (image : List ℕ) (site : Site) (shape : Shape K) (root : ℕ) (node : List ℕ) → found_physical image site root ≡ None → (tree_in shape site (in_container site.blocks) image).look (root_place root) ≡ Ok node → ⊥
nothing-there image site shape root node none ok =
    let go : (o : Option ℕ) → in_container site.blocks root ≡ o → option_map (λ block. standing image site (InBlock block) block) o ≡ None → ⊥ = λ o. elim o as (λ o. in_container site.blocks root ≡ o → option_map (λ block. standing image site (InBlock block) block) o ≡ None → ⊥) [
      | Some b ↦ λ e s. let z : ◌≡◌ {A = Option Found} (Some (standing image site (InBlock b) b)) None = s in cc
      | None ↦ λ e s.
          let look : (tree_in shape site (in_container site.blocks) image).look (root_place root) ≡ Err (Fails (walks.Unnamed root)) = ap (λ (o : Option ℕ). node_named shape site image (root_place root) (option_and_then (in_container site.blocks) o)) e in
          let z : ◌≡◌ {A = Result (List ℕ) (Stop WalkFault)} (Err (Fails (walks.Unnamed root))) (Ok node) = sym look ∙ ok in cc
    ] in
    go (in_container site.blocks root) refl none

-- a root that isn't found has no node
no-node : {K : Type 0} (image : List ℕ) (seen : Seen) (kind : TreeKind) (shape : Shape K) → IsWalkOf image seen kind ByBlock shape (in_container (site_of seen).blocks) → (root : ℕ) (r : IsRootNaming image seen kind ByBlock root) →
    (node : List ℕ) → (tree_in shape (site_of seen) (in_container (site_of seen).blocks) image).look (root_place root) ≡ Ok node → resolved image seen r.naming ≡ None → ⊥
unfolding resolved
no-node image seen kind shape walk root r node ok none =
    let n : Naming = r.naming in
    let found : found_physical image (site_of seen) root ≡ None =
    subst (λ o. found_physical image (site_of seen) o ≡ None) r.oid_is (subst (λ h. found_by image seen h n.expected n.oid ≡ None) r.how_is none) in
    nothing-there image (site_of seen) shape root node found ok

-- the root of a tree that has an item, or a wrong count, is found
pub root-found : {K : Type 0} (image : List ℕ) (seen : Seen) (kind : TreeKind) (shape : Shape K) → IsWalkOf image seen kind ByBlock shape (in_container (site_of seen).blocks) → (root : ℕ) (r : IsRootNaming image seen kind ByBlock root) →
    (node : List ℕ) → (tree_in shape (site_of seen) (in_container (site_of seen).blocks) image).look (root_place root) ≡ Ok node → NamesRoot image seen kind r.naming root
root-found image seen kind shape walk root r node ok = elim (found_or (resolved image seen r.naming)) as (λ _. NamesRoot image seen kind r.naming root) [
  | inr none ↦ absurd (no-node image seen kind shape walk root r node ok none)
  | inl t ↦ record { object = t.0; names = record { live = r.live; found = t.1 }; root = r.expected_is; at = sym (root-block image seen kind root r t.0 t.1) }
]

-- a look-up that gives a node, where what is made of it isn't what nothing makes
pub node-from : {X : Type 0} (look : Result (List ℕ) (Stop WalkFault)) (made : Option (List ℕ) → X) (x : X) → made (value_of look) ≡ x → (made None ≡ x → ⊥) → (node : List ℕ) × (look ≡ Ok node)
node-from (Ok node) made x e never = (node, refl)
node-from (Err stop) made x e never = absurd (never e)

-- an empty list has no such item
never-short : (number : ℕ) → passes (slice_get [] number) is_short_item ≡ true → ⊥
never-short number e = let l : number < length {A = Item} [] = passing-below is_short_item [] number e in omega arith

-- ---- what is told
-- of a physical tree whose root is named
pub tree-present : {K : Type 0} (image : List ℕ) (seen : Seen) (kind : TreeKind) (shape : Shape K) → IsWalkOf image seen kind ByBlock shape (in_container (site_of seen).blocks) →
    ((root : ℕ) → misplaced image seen kind root ≡ out_of_order shape (line_of (tree_in shape (site_of seen) (in_container (site_of seen).blocks) image) root)) →
    ((root : ℕ) → has_counts image seen kind root ≡ counts.is_counted (tree_in shape (site_of seen) (in_container (site_of seen).blocks) image) root) →
    (root : ℕ) → IsRootNaming image seen kind ByBlock root → (why : WalkFault) → IsWalkFault (tree_in shape (site_of seen) (in_container (site_of seen).blocks) image) root why → Present image seen (of_walk Physical seen.line.xid root why)
tree-present image seen kind shape walk order count root r (walks.Unsound block part) there = walk-present image seen kind ByBlock shape (in_container (site_of seen).blocks) walk root r root (walks.Unsound block part) there
tree-present image seen kind shape walk order count root r (walks.Unnamed oid) there = walk-present image seen kind ByBlock shape (in_container (site_of seen).blocks) walk root r root (walks.Unnamed oid) there
tree-present {K} image seen kind shape walk order count root r (walks.Order item) there =
    let tree : Tree K = tree_in shape (site_of seen) (in_container (site_of seen).blocks) image in
    let made : Option (List ℕ) → Option ℕ = λ o. out_of_order shape (through o (λ node. flat_map (line_part tree (level_of node) root) (entries_of shape node))) in
    let node = node-from (tree.look (root_place root)) made (Some there.number) there.first (λ z. let q : ◌≡◌ {A = Option ℕ} None (Some there.number) = z in cc) in
    record {
      kind = kind;
      naming = r.naming;
      root = root-found image seen kind shape walk root r node.0 node.1;
      number = there.number;
      first = ap (misplaced image seen kind) r.oid_is ∙ (order root ∙ there.first);
      same = there.same;
    }
tree-present {K} image seen kind shape walk order count root r walks.Counts there =
    let tree : Tree K = tree_in shape (site_of seen) (in_container (site_of seen).blocks) image in
    let made : Option (List ℕ) → Bool = λ o. counts.has_counts o (length (flat_of tree root)) (length (nodes_of tree root)) in
    let node = node-from (tree.look (root_place root)) made false there (λ z. let q : true ≡ false = z in cc) in
    record {
      kind = kind;
      naming = r.naming;
      root = root-found image seen kind shape walk root r node.0 node.1;
      wrong = ap (has_counts image seen kind) r.oid_is ∙ (count root ∙ there);
    }

-- of the two trees of an object map
pub records-present : (image : List ℕ) (seen : Seen) (root : ℕ) → IsRootNaming image seen MapRecords ByBlock root → (why : WalkFault) → IsWalkFault (record_tree image (site_of seen)) root why → Present image seen (of_walk Physical seen.line.xid root why)
unfolding misplaced has_counts tree_line
records-present image seen root r why there = tree-present image seen MapRecords omap_shape (records-walk image seen) (λ x. refl) (λ x. refl) root r why there

pub snapshots-present : (image : List ℕ) (seen : Seen) (root : ℕ) → IsRootNaming image seen MapSnapshots ByBlock root → (why : WalkFault) → IsWalkFault (snapshot_tree image (site_of seen)) root why → Present image seen (of_walk Physical seen.line.xid root why)
unfolding misplaced has_counts tree_line
snapshots-present image seen root r why there = tree-present image seen MapSnapshots omap_snap_shape (snapshots-walk image seen) (λ x. refl) (λ x. refl) root r why there

-- of snapshot metadata
pub metadata-present : (image : List ℕ) (seen : Seen) (root : ℕ) → IsRootNaming image seen SnapMetadata ByBlock root → (why : WalkFault) → IsWalkFault (metadata_tree image (site_of seen)) root why → Present image seen (of_walk Physical seen.line.xid root why)
unfolding misplaced has_counts tree_line
metadata-present image seen root r why there = tree-present image seen SnapMetadata snap_shape (metadata-walk image seen) (λ x. refl) (λ x. refl) root r why there

-- of extent references, values that are too short among it
pub extents-present : (image : List ℕ) (seen : Seen) (root : ℕ) → IsRootNaming image seen ExtentRefs ByBlock root → (stop : ExtStop) → IsExtStop image (site_of seen) root stop → Present image seen (of_extents seen root stop)
unfolding misplaced has_counts tree_line
extents-present image seen root r (exts.Walk why) (some, there) = tree-present image seen ExtentRefs ext_shape (extents-walk image seen) (λ x. refl) (λ x. refl) root r why there
extents-present image seen root r (exts.Value item) (some, there) =
    let tree : Tree ExtKey = ext_tree image (site_of seen) in
    let made : Option (List ℕ) → Bool = λ o. passes (slice_get (through o (λ node. flat_map (line_part tree (level_of node) root) (entries_of ext_shape node))) there.number) is_short_item in
    let node = node-from (tree.look (root_place root)) made true there.short (λ z. never-short there.number z) in
    record {
      kind = ExtentRefs;
      naming = r.naming;
      root = root-found image seen ExtentRefs ext_shape (extents-walk image seen) root r node.0 node.1;
      number = there.number;
      low = subst (λ o. there.number < length (line_of tree o)) (sym r.oid_is) (passing-below is_short_item (line_of tree root) there.number there.short);
      short = ap (λ o. is_short_at image seen ExtentRefs o there.number) r.oid_is ∙ there.short;
      same = there.same;
    }
