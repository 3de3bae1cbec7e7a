-- What a walk over the extents of a stream tells.
use Rattle.std.proofs.Common.{◌≡◌, ℕ, zero, suc, ◌+◌, ◌<◌, ◌≤◌, Bool, true, List, [], ◌∷◌, length, map, Option, Some, None, Result, Ok, Err, All, IsSome, refl, ap, sym, ◌∙◌, arith}
use Rattle.std.specs.Prelude.{flat_map}
use Rattle.std.specs.List.{range_with_len}
use Rattle.std.proofs.lemmas.List.Elements.{All-nil, All-cons, All-head, All-tail, All-append}
use Rattle.apfs_model.specs.Lists.{through, value_of}
use Rattle.apfs_model.specs.Blocks.{block_of}
use Rattle.obj_base.specs.Stops.{Tells, raised}
use Rattle.obj_base.specs.declared.stop.Bad.{Bad}
use Rattle.obj_base.specs.declared.stop.Bad.TheVariants as bads
use Rattle.obj_base.specs.declared.stop.Stop.{Stop}
use Rattle.obj_base.specs.declared.stop.Stop.TheVariants.{Found, Unsupported, ReadFault, NoMemory}
use Rattle.obj_base.specs.declared.site.Site.{Site}
use Rattle.bt_node.specs.Shape.{Shape}
use Rattle.bt_node.specs.Node.{level_of, count_of}
use Rattle.bt_node.specs.Entries.{Pair, pair_of, pairs_of}
use Rattle.bt_node.specs.Soundness.{node_of}
use Rattle.bt_node.specs.declared.node.NodeAt.{NodeAt}
use Rattle.bt_node.specs.declared.fault.NodeFault.{NodeFault}
use Rattle.bt_node.proofs.Laws.{node_means}
use Rattle.bt_keys.specs.RecordKey.{file_extent_record}
use Rattle.bt_keys.specs.FsTree.{IsFsShape}
use Rattle.bt_keys.proofs.FsKeys.{extent_long}
use Rattle.bt_cursor.specs.Tree.{Tree, root_place, child_place, judged, node_named, block_named, tree_in}
use Rattle.bt_cursor.specs.Flat.{flat_part, flat_of}
use Rattle.bt_cursor.specs.Gaps.{Gapped, gapped_of, all_met, all_flat, IsSuffix}
use Rattle.bt_cursor.specs.Line.{line_of}
use Rattle.bt_cursor.specs.Order.{is_ordered}
use Rattle.bt_cursor.specs.From.{gapped_from_rank, starts_whole, is_of_kind}
use Rattle.bt_cursor.specs.Faults.{IsNodeFault, HasFeature}
use Rattle.bt_cursor.specs.declared.fault.WalkFault.{WalkFault}
use Rattle.bt_cursor.specs.declared.fault.WalkFault.TheVariants.{Unsound, Unnamed, Order, Counts}
use Rattle.bt_cursor.proofs.Nodes.{node_same}
use Rattle.bt_cursor.proofs.Seeks.{from-flat}
use Rattle.file_extent.specs.declared.stop.StreamStop.TheVariants as stops
use Rattle.file_extent.specs.Collected.{stream_rank, IsReadable, IsCollected, IsCollectStop}
use Rattle.file_extent.proofs.Collecting.{extents-none}

-- the logical address lies in the key of an extent
pub long_read : {K : Type 0} (hashed : Bool) (shape : Shape K) (key : List ℕ) (k : K) (kind : ℕ) → IsFsShape hashed shape → shape.read key ≡ Some k → kind ≡ (shape.rank k).kind → kind ≡ file_extent_record → 16 ≤ length key
long_read hashed shape key k kind law e is eight =
    let known = law.reads key k e in
    extent_long hashed key known.whole (sym known.kind ∙ (sym is ∙ eight))

-- ---- each record of a tree has a key that can be read
each-range : (P : Pair → Type 0) (f : ℕ → Pair) (a n : ℕ) → ((i : ℕ) → i < a + n → P (f i)) → All P (map f (range_with_len a n))
each-range P f a zero each = All-nil P
each-range P f a (suc n) each = All-cons P (f a) (map f (range_with_len (a + 1) n)) (each a (omega arith)) (each-range P f (a + 1) n (λ i low. each i (omega arith)))

each-flat : (P : Pair → Type 0) (f : Pair → List Pair) (ps : List Pair) → All P ps → ((p : Pair) → P p → All P (f p)) → All P (flat_map f ps)
each-flat P f [] all each = All-nil P
each-flat P f (p ∷ ps) all each = All-append P (f p) (flat_map f ps) (each p (All-head P p ps all)) (each-flat P f ps (All-tail P p ps all) each)

each-through : (P : Pair → Type 0) (r : Result (List ℕ) (Stop WalkFault)) (f : List ℕ → List Pair) → ((node : List ℕ) → r ≡ Ok node → All P (f node)) → All P (through (value_of r) f)
each-through P (Ok node) f each = each node refl
each-through P (Err why) f each = All-nil P

each-part : {K : Type 0} (tree : Tree K) (P : Pair → Type 0) → ((at : NodeAt) (node : List ℕ) → tree.look at ≡ Ok node → All P (pairs_of tree.shape node)) → (level : ℕ) (pair : Pair) → P pair → All P (flat_part tree level pair)
each-part tree P nodes zero pair here = All-cons P pair [] here (All-nil P)
each-part tree P nodes (suc level) pair here =
    each-through P (tree.look (child_place level pair)) (λ node. flat_map (flat_part tree level) (pairs_of tree.shape node)) (λ node there.
    each-flat P (flat_part tree level) (pairs_of tree.shape node) (nodes (child_place level pair) node there) (each-part tree P nodes level))

each-entry : {K : Type 0} (tree : Tree K) (root : ℕ) (P : Pair → Type 0) → ((at : NodeAt) (node : List ℕ) → tree.look at ≡ Ok node → All P (pairs_of tree.shape node)) → All P (flat_of tree root)
each-entry tree root P nodes =
    each-through P (tree.look (root_place root)) (λ node. flat_map (flat_part tree (level_of node)) (pairs_of tree.shape node)) (λ node there.
    each-flat P (flat_part tree (level_of node)) (pairs_of tree.shape node) (nodes (root_place root) node there) (each-part tree P nodes (level_of node)))

judged-ok : {K : Type 0} (shape : Shape K) (site : Site) (at : NodeAt) (block : ℕ) (bytes node : List ℕ) (r : Result (List ℕ) (Bad NodeFault)) → node_of shape at site bytes ≡ r → judged block r ≡ Ok node → node_of shape at site node ≡ Ok node
judged-ok shape site at block bytes node (Ok other) test e =
    let same : other ≡ node = cc in
    let whole : node ≡ bytes = sym same ∙ node_same shape at site bytes other test in
    ap (node_of shape at site) whole ∙ (test ∙ ap Ok same)
judged-ok shape site at block bytes node (Err (bads.Found why)) test e = absurd (cc)
judged-ok shape site at block bytes node (Err (bads.Unsupported feature)) test e = absurd (cc)

named-ok : {K : Type 0} (shape : Shape K) (site : Site) (image : List ℕ) (at : NodeAt) (node : List ℕ) (o : Option ℕ) → node_named shape site image at o ≡ Ok node → node_of shape at site node ≡ Ok node
named-ok shape site image at node None e = absurd (cc)
named-ok shape site image at node (Some block) e = judged-ok shape site at block (block_of site.block_size image block) node (node_of shape at site (block_of site.block_size image block)) refl e

pub tree-readable : {K : Type 0} (shape : Shape K) (site : Site) (named : ℕ → Option ℕ) (image : List ℕ) (root : ℕ) → IsReadable (tree_in shape site named image) root
tree-readable shape site named image root =
    let tree = tree_in shape site named image in
    each-entry tree root (λ (p : Pair). IsSome (shape.read p.key)) (λ at node there.
    let sound = node_means shape at site node (named-ok shape site image at node (block_named site named at.oid) there) in
    each-range (λ (p : Pair). IsSome (shape.read p.key)) (pair_of shape node) 0 (count_of node) (λ i low. (sound.table.entries i (omega arith)).readable))

-- ---- why a walk stops is there
pub walk_tells : {K : Type 0} (site : Site) (tree : Tree K) (root id : ℕ) (stop : Stop WalkFault) → Tells (IsNodeFault tree root) (HasFeature tree root) stop → Tells (IsCollectStop site tree root id) (HasFeature tree root) (raised (stops.Walk root) stop)
walk_tells site tree root id (Found (Unsound block why)) h = (refl, h)
walk_tells site tree root id (Found (Unnamed oid)) h = (refl, h)
walk_tells site tree root id (Found (Order item)) h = absurd h
walk_tells site tree root id (Found Counts) h = absurd h
walk_tells site tree root id (Unsupported feature block) h = h
walk_tells site tree root id ReadFault h = tt
walk_tells site tree root id NoMemory h = tt

-- ---- a walk that stands before the first extent
pub collected_none : {K : Type 0} (tree : Tree K) (root id : ℕ) (left : List (Gapped Pair)) → IsReadable tree root → IsSuffix (all_met left) (flat_of tree root) →
    (is_ordered tree.shape (line_of tree root) ≡ true → left ≡ all_flat (gapped_from_rank tree.shape (stream_rank id 0) (gapped_of tree root))) → IsCollected tree root id left []
collected_none tree root id left readable suffix first = record {
  before = suffix.before;
  taken = [];
  split = suffix.split;
  ranks = refl;
  same = extents-none id;
  from = λ ordered. sym (ap all_met (first ordered) ∙ from-flat tree root (stream_rank id 0) ordered);
  whole = λ ordered. ap (starts_whole tree.shape (is_of_kind id file_extent_record)) (sym (first ordered));
  readable = readable;
}
