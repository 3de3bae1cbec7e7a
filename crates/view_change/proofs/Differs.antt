-- What was found of the leaves of a view, said of the view.
use Rattle.std.proofs.Common.{◌≡◌, ◌∙◌, ◌+◌, ◌≤◌, ℕ, suc, Bool, true, false, Option, List, [], ◌∷◌, None, length, map, filter, refl, ap, sym, subst, arith}
use Rattle.std.specs.Prelude.{All, if◌then◌else◌}
use Rattle.std.proofs.lemmas.List.Elements.{All-nil, All-append}
use Rattle.apfs_model.specs.Counts.{given}
use Rattle.apfs_model.specs.Lists.{In}
use Rattle.apfs_model.proofs.Searches.{in-filter, in-map}
use Rattle.obj_base.specs.declared.site.Site.{Site}
use Rattle.bt_node.specs.Shape.{Shape}
use Rattle.bt_node.specs.Entries.{Pair}
use Rattle.bt_node.specs.declared.node.NodeAt.{NodeAt}
use Rattle.bt_keys.specs.Shapes.{fs_shape}
use Rattle.bt_cursor.specs.Tree.{tree_in}
use Rattle.bt_cursor.specs.Met.{places_of}
use Rattle.bt_cursor.specs.Flat.{flat_of}
use Rattle.bt_cursor.specs.Line.{Item, line_of, is_leaf_item}
use Rattle.bt_cursor.specs.WholeTree.{leaf_pairs}
use Rattle.bt_cursor.proofs.Flats.{line-pairs}
use Rattle.fs_name.specs.declared.naming.Names.{Names}
use Rattle.fs_name.specs.Normal.{are_hashed}
use Rattle.fs_record.specs.Facts.{refused}
use Rattle.omap_map.specs.Maps.{Contents}
use Rattle.omap_map.specs.Resolve.{named_by}
use Rattle.omap_map.proofs.Lists.{all-in}
use Rattle.vol_view.specs.Volumes.{Loaded}
use Rattle.vol_view.specs.Views.{hashed_tree, view_named}
use Rattle.vol_view.specs.declared.volume.View.{View}
use Rattle.view_rules.specs.Facts.{Facts}
use Rattle.view_rules.specs.Rules.{refusal_of, HasRecords}
use Rattle.view_facts.specs.Kept.{IsWalkedView}
use Rattle.view_facts.proofs.Walks.{walked-hashed}
use Rattle.view_change.specs.declared.leaf.Leaf.{Leaf}
use Rattle.view_change.specs.declared.kept.KeptLeaf.{KeptLeaf}
use Rattle.view_change.specs.declared.kept_view.KeptView.{KeptView}
use Rattle.view_change.specs.declared.changing.Changed.{Changed}
use Rattle.view_change.specs.Leaves.{leaves_at, uppers_in, records_of, records_in}
use Rattle.view_change.specs.Shared.{ShareLeaves, IsWithin}
use Rattle.view_change.specs.Kept.{leaf_of, facts_of, facts_said, AreReadable, IsKeptLeaf, IsKeptView}
use Rattle.view_change.specs.Changing.{IsDifference}
use Rattle.view_change.specs.Walked.{IsTaken}
use Rattle.view_change.specs.Difference.{view_places, view_leaves, new_nodes, IsKeptOf}

-- the records of leaves that are kept can be read
leaves-readable : {K : Type 0} (shape : Shape K) (site : Site) (image : List ℕ) (names : Names) (kept : List KeptLeaf) → All (IsKeptLeaf shape site image names) kept → AreReadable names (records_in shape site image (map leaf_of kept))
leaves-readable shape site image names [] all = All-nil (λ (pair : Pair). refused names pair ≡ None)
leaves-readable shape site image names (leaf ∷ leaves) all =
    All-append (λ (pair : Pair). refused names pair ≡ None) (records_of shape site image leaf.leaf) (records_in shape site image (map leaf_of leaves))
    (all 0 leaf (omega arith)).readable (leaves-readable shape site image names leaves (λ k d low. all (suc k) d (omega arith)))

-- so can those of their Line
item-readable : (names : Names) (line : List Item) (item : Item) → In item line → (b : Bool) → is_leaf_item item ≡ b → AreReadable names (leaf_pairs line) → (if b then refused names item.pair else None) ≡ None
item-readable names line item listed true leaf all = all-in (λ (pair : Pair). refused names pair ≡ None) (leaf_pairs line) all item.pair (in-map (λ (i : Item). i.pair) (filter is_leaf_item line) item (in-filter is_leaf_item item line listed leaf))
item-readable names line item listed false upper all = refl

line-readable : (names : Names) (line : List Item) → AreReadable names (leaf_pairs line) → HasRecords names line
unfolding refusal_of
line-readable names line all item listed = item-readable names line item listed (is_leaf_item item) refl all

-- the places that a walk over a view meets
places-hashed : (image : List ℕ) (site : Site) (volume : Loaded) (view : View) → are_hashed volume.names ≡ true → view_places image site volume view ≡ places_of (hashed_tree image site volume view) view.root_oid
unfolding view_places
places-hashed image site volume view e = rw e refl

-- what is kept of the leaves that were taken is what is kept of the view
pub kept-view : (image : List ℕ) (site : Site) (volume : Loaded) (view : View) (before : Facts) (changed : Changed) (holds : List Leaf → Type 0) → are_hashed volume.names ≡ true → before.names ≡ volume.names
    → (taken : IsTaken fs_shape site (view_named site volume view) image view.root_oid holds) → IsDifference fs_shape site image taken.leaves before changed → IsKeptOf image site volume view changed.after
kept-view image site volume view before changed holds hashed named taken d =
    let tree = hashed_tree image site volume view in
    let root = view.root_oid in
    let names : before.names ≡ volume.names = named in
    let after : IsKeptView fs_shape site image volume.names taken.leaves changed.after = subst (λ (n : Names). IsKeptView fs_shape site image n taken.leaves changed.after) names d.after in
    let facts : facts_of changed.after ≡ facts_said volume.names (flat_of tree root) =
    after.kept.said ∙ (ap (λ (ls : List Leaf). facts_said volume.names (records_in fs_shape site image ls)) after.listed ∙ ap (λ (ps : List Pair). facts_said volume.names ps) (sym taken.flat)) in
    let pairs : records_in fs_shape site image (map leaf_of changed.after.held.leaves.items) ≡ leaf_pairs (line_of tree root) =
    ap (λ (ls : List Leaf). records_in fs_shape site image ls) after.listed ∙ (sym taken.flat ∙ sym (line-pairs tree root)) in
    let readable : HasRecords volume.names (line_of tree root) =
    line-readable volume.names (line_of tree root) (subst (AreReadable volume.names) pairs (leaves-readable fs_shape site image volume.names changed.after.held.leaves.items after.kept.each)) in
    let walked : IsWalkedView false image site volume view (record { facts = facts_of changed.after; records = changed.after.held.records; refusal = None }) =
    walked-hashed false image site volume view (record { facts = facts_of changed.after; records = changed.after.held.records; refusal = None }) hashed (record {
      whole = taken.whole;
      facts = facts;
      records = after.records ∙ ap (λ (ps : List Pair). given (length ps)) (sym taken.flat);
      refusal = readable;
    }) in
    record {
      leaves = taken.leaves;
      all = taken.all ∙ ap (leaves_at site (view_named site volume view)) (sym (places-hashed image site volume view hashed));
      leaves_kept = after;
      gathered = record {
        walkable = walked.walkable;
        ordered = walked.ordered;
        counted = walked.counted;
        readable = walked.refusal;
        facts = walked.facts;
        records = walked.records;
      };
    }

-- the names of a view that is kept
pub kept-names : (image : List ℕ) (site : Site) (names : Names) (leaves : List Leaf) (kept : KeptView) → IsKeptView fs_shape site image names leaves kept → (facts_of kept).names ≡ names
kept-names image site names leaves kept is = ap (λ (f : Facts). f.names) is.kept.said

-- its reads are no more than the places
pub places-within : (image : List ℕ) (site : Site) (volume : Loaded) (view : View) (omap : Contents) (first last : ℕ) → omap ≡ volume.omap → are_hashed volume.names ≡ true
    → last ≤ first + length (places_of (tree_in fs_shape site (λ oid. named_by omap.records view.xid site.blocks oid) image) view.root_oid) → last ≤ first + length (view_places image site volume view)
places-within image site volume view omap first last same hashed few =
    subst (λ (ats : List NodeAt). last ≤ first + length ats) (sym (places-hashed image site volume view hashed))
    (subst (λ (o : Contents). last ≤ first + length (places_of (tree_in fs_shape site (λ oid. named_by o.records view.xid site.blocks oid) image) view.root_oid)) same few)

-- a limit for a view that shares leaves with the one before: one read for each node above its leaves, and for each leaf that is new
pub begins-so : (image : List ℕ) (site : Site) (volume : Loaded) (view : View) (omap : Contents) (before : List Leaf) (reads limit : ℕ) → omap ≡ volume.omap → are_hashed volume.names ≡ true → ShareLeaves before (view_leaves image site volume view)
    → limit ≡ reads + new_nodes image site volume view before
    → ShareLeaves before (leaves_at site (λ oid. named_by omap.records view.xid site.blocks oid) (places_of (tree_in fs_shape site (λ oid. named_by omap.records view.xid site.blocks oid) image) view.root_oid))
    × IsWithin before (leaves_at site (λ oid. named_by omap.records view.xid site.blocks oid) (places_of (tree_in fs_shape site (λ oid. named_by omap.records view.xid site.blocks oid) image) view.root_oid)) (reads + length (uppers_in (places_of (tree_in fs_shape site (λ oid. named_by omap.records view.xid site.blocks oid) image) view.root_oid))) limit
begins-so image site volume view omap before reads limit same hashed shares all =
    let Q : (ℕ → Option ℕ) → List NodeAt → Type 0 = λ named ats. ShareLeaves before (leaves_at site named ats) × IsWithin before (leaves_at site named ats) (reads + length (uppers_in ats)) limit in
    let here : Q (view_named site volume view) (view_places image site volume view) = (shares, omega (arith, all)) in
    subst (λ (o : Contents). Q (λ oid. named_by o.records view.xid site.blocks oid) (places_of (tree_in fs_shape site (λ oid. named_by o.records view.xid site.blocks oid) image) view.root_oid)) (sym same)
    (subst (Q (view_named site volume view)) (places-hashed image site volume view hashed) here)
