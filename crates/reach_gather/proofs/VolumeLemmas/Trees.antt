-- Trees that are whole, in the words of namings.
use Rattle.std.proofs.Common.{◌≡◌, ℕ, true, false, List, Option, Some, None, refl, ◌∙◌}
use Rattle.std.specs.Prelude.{Bool, slice_get}
use Rattle.apfs_model.specs.Lists.{passes}
use Rattle.bt_node.specs.Shape.{Shape}
use Rattle.bt_cursor.specs.Tree.{Tree, tree_in}
use Rattle.bt_cursor.specs.Line.{Item, line_of}
use Rattle.bt_cursor.specs.Order.{out_of_order}
use Rattle.bt_cursor.specs.Whole.{is_whole}
use Rattle.bt_cursor.proofs.Wholes.{whole_means}
use Rattle.nx_ring.specs.Checkpoint.{Seen, site_of}
use Rattle.reach_rules.specs.declared.naming.LookUp.{LookUp}
use Rattle.reach_rules.specs.declared.naming.Object.{Object}
use Rattle.reach_rules.specs.declared.naming.TreeKind.{TreeKind}
use Rattle.reach_rules.specs.Trees.{tree_line, is_short}
use Rattle.reach_gather.specs.Walked.{IsWholeTree}
use Rattle.reach_gather.proofs.Walking.{IsKindOf, none-from}

never-short : (o : Option Item) (short : Item → Bool) → ((item : Item) → short item ≡ false) → passes o short ≡ false
never-short None short never = refl
never-short (Some item) short never = never item

-- a tree of a kind in which nothing is too short
pub whole-tree : {K : Type 0} {image : List ℕ} {seen : Seen} {kind : TreeKind} {how : LookUp} {object : ℕ → Object} {shape : Shape K} {named : ℕ → Option ℕ} → IsKindOf image seen kind how object shape named → (root : ℕ) →
    ((item : Item) → is_short kind item ≡ false) → is_whole (tree_in shape (site_of seen) named image) root ≡ true → IsWholeTree image seen kind root
whole-tree {K} {image} {seen} {kind} {how} {object} {shape} {named} k root never e =
    let tree : Tree K = tree_in shape (site_of seen) named image in
    let whole = whole_means tree root e in
    record {
      nodes = k.nodes root ∙ whole.walkable;
      right = record {
        ordered = k.order root ∙ none-from (out_of_order shape (line_of tree root)) whole.ordered;
        counted = k.count root ∙ whole.counted;
        long = λ number low. never-short (slice_get (tree_line image seen kind root) number) (is_short kind) never;
      };
    }
