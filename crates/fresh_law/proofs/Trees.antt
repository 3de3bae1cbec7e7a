-- The trees of the container are in order and counted.
use Rattle.std.proofs.Common.{arith, ◌≡◌, ℕ, ◌<◌, Bool, true, false, List, [], ◌∷◌, map, Option, Some, None, refl, ap, sym, ◌∙◌, subst}
use Rattle.std.specs.Prelude.{slice_get}
use Rattle.apfs_model.specs.Bytes.{u64_at}
use Rattle.apfs_model.specs.Blocks.{in_container}
use Rattle.apfs_model.specs.Lists.{passes}
use Rattle.bt_node.specs.Entries.{Pair}
use Rattle.bt_keys.specs.Shapes.{omap_shape, queue_shape, ext_shape, snap_shape}
use Rattle.bt_cursor.specs.Tree.{tree_in}
use Rattle.bt_cursor.specs.Line.{Item}
use Rattle.bt_cursor.specs.Order.{out_of_order}
use Rattle.nx_ring.specs.Checkpoint.{site_of}
use Rattle.omap_map.specs.Maps.{record_tree}
use Rattle.vol_view.specs.SnapRecords.{metadata_tree}
use Rattle.ext_ref.specs.Ranges.{ext_tree}
use Rattle.space_pool.specs.Queues.{queue_tree, ephemeral_named}
use Rattle.space_pool.specs.declared.entry.Queue.{Queue}
use Rattle.space_pool.specs.declared.entry.Queue.TheVariants.{Pool, Main}
use Rattle.reach_rules.specs.declared.naming.TreeKind.{TreeKind}
use Rattle.reach_rules.specs.declared.naming.TreeKind.TheVariants.{MapRecords, ExtentRefs, SnapMetadata, FreeQueue, Files}
use Rattle.reach_rules.specs.declared.naming.Expected.{Expected}
use Rattle.reach_rules.specs.declared.naming.Expected.TheVariants.{TreeRoot}
use Rattle.reach_rules.specs.declared.naming.Naming.{Naming}
use Rattle.reach_rules.specs.Trees.{tree_line, misplaced, has_counts, is_short, IsRightTree}
use Rattle.reach_rules.specs.Accounted.{AreInOrder}
use Rattle.reach_rules.proofs.Nexts.{Each, each-in}
use Rattle.img_format.specs.declared.spec.Spec.{Spec}
use Rattle.img_format.specs.Valid.{IsValid}
use Rattle.img_format.specs.Tables.{num}
use Rattle.img_format.specs.Blocks.{map_entry}
use Rattle.fresh_law.specs.Site.{site}
use Rattle.fresh_law.specs.Checkpoint.{seen}
use Rattle.fresh_law.specs.Facts.{pair_of, IsFresh}
use Rattle.fresh_law.proofs.Leaves.{IsLeaf, leaf_items, leaf-line, leaf-counted}
use Rattle.fresh_law.proofs.Sites.{site-is, inside}
use Rattle.fresh_law.proofs.Maps.{leaf-in}
use Rattle.fresh_law.proofs.Owned.{pool_queue-named, main_queue-named}
use Rattle.fresh_law.proofs.Roots as known
use Rattle.fresh_law.proofs.Named.{live-has}

never : (o : Option Item) → passes o (is_short MapRecords) ≡ false
never None = refl
never (Some x) = refl

right-map : (image : List ℕ) (root : ℕ) (pairs : List Pair) → IsLeaf (record_tree image (site_of (seen image))) root pairs → out_of_order omap_shape (leaf_items root 0 pairs) ≡ None → IsRightTree image (seen image) MapRecords root
unfolding misplaced has_counts tree_line
right-map image root pairs l ordered = record {
  ordered = ap (out_of_order omap_shape) (leaf-line (record_tree image (site_of (seen image))) root pairs l) ∙ ordered;
  counted = leaf-counted (record_tree image (site_of (seen image))) root pairs l;
  long = λ number low. never _;
}

no-item : (line : List Item) (test : Item → Bool) (number : ℕ) → line ≡ [] → passes (slice_get line number) test ≡ false
no-item line test number e = ap (λ xs. passes (slice_get xs number) test) e

right-extents : (image : List ℕ) (root : ℕ) → IsLeaf (ext_tree image (site_of (seen image))) root [] → IsRightTree image (seen image) ExtentRefs root
unfolding misplaced has_counts tree_line
right-extents image root l =
    let line = leaf-line (ext_tree image (site_of (seen image))) root [] l in
    record {
      ordered = ap (out_of_order ext_shape) line;
      counted = leaf-counted (ext_tree image (site_of (seen image))) root [] l;
      long = λ number low. no-item _ (is_short ExtentRefs) number line;
    }

right-snaps : (image : List ℕ) (root : ℕ) → IsLeaf (metadata_tree image (site_of (seen image))) root [] → IsRightTree image (seen image) SnapMetadata root
unfolding misplaced has_counts tree_line
right-snaps image root l =
    let line = leaf-line (metadata_tree image (site_of (seen image))) root [] l in
    record {
      ordered = ap (out_of_order snap_shape) line;
      counted = leaf-counted (metadata_tree image (site_of (seen image))) root [] l;
      long = λ number low. no-item _ (is_short SnapMetadata) number line;
    }

right-queue : (image : List ℕ) (which : Queue) (root : ℕ) → IsLeaf (queue_tree image (seen image)) root [] → IsRightTree image (seen image) (FreeQueue which) root
unfolding misplaced has_counts tree_line
right-queue image which root l =
    let line = leaf-line (queue_tree image (seen image)) root [] l in
    record {
      ordered = ap (out_of_order queue_shape) line;
      counted = leaf-counted (queue_tree image (seen image)) root [] l;
      long = λ number low. no-item _ (is_short (FreeQueue which)) number line;
    }

-- files are the view's
right-files : (image : List ℕ) (hashed : Bool) (root : ℕ) → IsRightTree image (seen image) (Files hashed) root
unfolding misplaced has_counts tree_line
right-files image hashed root = record { ordered = refl; counted = refl; long = λ number low. no-item [] (is_short (Files hashed)) number refl }

volume-ordered : out_of_order omap_shape (leaf_items 26 0 (map pair_of (map_entry 1026 51 ∷ []))) ≡ None
unfolding u64_at num
volume-ordered = refl

files-ordered : out_of_order omap_shape (leaf_items 53 0 (map pair_of (map_entry 1028 54 ∷ []))) ≡ None
unfolding u64_at num
files-ordered = refl

abbrev volume_pairs : List Pair
volume_pairs = map pair_of (map_entry 1026 51 ∷ [])

abbrev files_pairs : List Pair
files_pairs = map pair_of (map_entry 1028 54 ∷ [])

-- each row that expects a tree has a right one
abbrev HasTree : List ℕ → known.Row → Type 0
HasTree image row = (kind : TreeKind) → row.naming.expected ≡ TreeRoot kind → IsRightTree image (seen image) kind row.naming.oid

no-tree : (image : List ℕ) (row : known.Row) → ((kind : TreeKind) → row.naming.expected ≡ TreeRoot kind → ⊥) → HasTree image row
no-tree image row h kind e = absurd (h kind e)

with-tree : (image : List ℕ) (row : known.Row) (k : TreeKind) → row.naming.expected ≡ TreeRoot k → IsRightTree image (seen image) k row.naming.oid → HasTree image row
with-tree image row k s r kind e = let same : k ≡ kind = (let q : ◌≡◌ {A = Expected} (TreeRoot k) (TreeRoot kind) = sym s ∙ e in cc) in subst (λ x. IsRightTree image (seen image) x row.naming.oid) same r

all-trees : (spec : Spec) (image : List ℕ) → IsValid spec → IsFresh spec image → Each (HasTree image) known.rows
all-trees spec image v f =
    let s = sym (site-is spec image f) in
    let at : (k : ℕ) → 0 < k → k < 57 → in_container spec.blocks k ≡ Some k = inside spec v in
    let i26 = at 26 (omega arith) (omega arith) in
    let i53 = at 53 (omega arith) (omega arith) in
    let i55 = at 55 (omega arith) (omega arith) in
    let i56 = at 56 (omega arith) (omega arith) in
    let queue : (oid k : ℕ) → IsLeaf (tree_in queue_shape (site spec) (ephemeral_named (seen image)) image) oid [] → IsLeaf (queue_tree image (seen image)) oid [] = λ oid k l. subst (λ x. IsLeaf (tree_in queue_shape x (ephemeral_named (seen image)) image) oid []) s l in (
      no-tree image known.manager_row (λ kind e. cc),
      (
        no-tree image known.map_row (λ kind e. cc),
        (
          no-tree image known.reaper_row (λ kind e. cc),
          (
            no-tree image known.volume_row (λ kind e. cc),
            (
              with-tree image known.pool_queue_row (FreeQueue Pool) refl (right-queue image Pool 1029 (queue 1029 11 (leaf-in queue_shape spec image (ephemeral_named (seen image)) 1029 11 [] f.pool_queue (pool_queue-named spec image v f) (at 11 (omega arith) (omega arith))))),
              (
                with-tree image known.main_queue_row (FreeQueue Main) refl (right-queue image Main 1030 (queue 1030 12 (leaf-in queue_shape spec image (ephemeral_named (seen image)) 1030 12 [] f.main_queue (main_queue-named spec image v f) (at 12 (omega arith) (omega arith))))),
                (
                  no-tree image known.info_row (λ kind e. cc),
                  (
                    with-tree image known.map_tree_row MapRecords refl (right-map image 26 volume_pairs (subst (λ x. IsLeaf (record_tree image x) 26 volume_pairs) s (leaf-in omap_shape spec image (in_container spec.blocks) 26 26 (map_entry 1026 51 ∷ []) f.container_tree i26 i26)) volume-ordered),
                    (
                      no-tree image known.volume_map_row (λ kind e. cc),
                      (
                        with-tree image known.files_row (Files true) refl (right-files image true 1028),
                        (
                          with-tree image known.extents_row ExtentRefs refl (right-extents image 55 (subst (λ x. IsLeaf (ext_tree image x) 55 []) s (leaf-in ext_shape spec image (in_container spec.blocks) 55 55 [] f.extents i55 i55))),
                          (
                            with-tree image known.snaps_row SnapMetadata refl (right-snaps image 56 (subst (λ x. IsLeaf (metadata_tree image x) 56 []) s (leaf-in snap_shape spec image (in_container spec.blocks) 56 56 [] f.snapshots i56 i56))),
                            (
                              with-tree image known.volume_tree_row MapRecords refl (right-map image 53 files_pairs (subst (λ x. IsLeaf (record_tree image x) 53 files_pairs) s (leaf-in omap_shape spec image (in_container spec.blocks) 53 53 (map_entry 1028 54 ∷ []) f.volume_tree i53 i53)) files-ordered),
                              tt,
                            ),
                          ),
                        ),
                      ),
                    ),
                  ),
                ),
              ),
            ),
          ),
        ),
      ),
    )

pub are-in-order : (spec : Spec) (image : List ℕ) → IsValid spec → IsFresh spec image → AreInOrder image (seen image)
are-in-order spec image v f n kind l e =
    let h = live-has spec image v f n l in
    let r = each-in (HasTree image) known.rows h.row (all-trees spec image v f) h.one kind (ap (λ (x : Naming). x.expected) h.same ∙ e) in
    subst (λ (x : Naming). IsRightTree image (seen image) kind x.oid) h.same r
