use Rattle.std.proofs.Common.{◌≡◌, ℕ, List, true, ap, sym, ◌∙◌, subst}
use Rattle.obj_base.specs.Stops.{Tells}
use Rattle.bt_node.specs.Entries.{Pair}
use Rattle.bt_cursor.specs.Tree.{Tree, tree_in}
use Rattle.bt_cursor.specs.Flat.{flat_of}
use Rattle.bt_cursor.specs.Line.{line_of}
use Rattle.bt_cursor.specs.Gaps.{gapped_of, all_flat, IsSuffix}
use Rattle.bt_cursor.specs.Order.{is_ordered}
use Rattle.bt_cursor.specs.From.{gapped_from_rank}
use Rattle.bt_cursor.specs.Faults.{IsNodeFault, HasFeature}
use Rattle.bt_cursor.specs.Cursors.{root_of, tree_of, left_of, gapped_left_of}
use Rattle.bt_cursor.proofs.Runs.{flat-suffix}
use Rattle.file_extent.specs.Collected.{stream_rank, IsCollectStop}
use Rattle.file_extent.proofs.Walks.{tree-readable, walk_tells, collected_none}
use Rattle.file_extent.proofs.collect.open.Goals as goal

pub returns-in-Err-clause-present : goal.returns-in-Err-clause-present
returns-in-Err-clause-present g c = λ image told.
    let tree = tree_in g.K.TreeKey.shape c.args.site.now (g.N.Namer.named c.args.namer) image in
    subst (Tells (IsCollectStop c.args.site.now tree c.args.root c.args.id) (HasFeature tree c.args.root)) (sym c.raise.ensures)
    (walk_tells c.args.site.now tree c.args.root c.args.id c.in-Err.stop (c.in-Err.ensures.present image told))

pub returns-in-Ok-seek-clause-within : goal.returns-in-Ok-seek-clause-within
returns-in-Ok-seek-clause-within g c = λ image told.
    c.in-Ok-seek.ensures.within image (c.in-Ok.ensures.kept.same_bytes ∙ told) (c.in-Ok.ensures.within image told)

pub returns-in-Ok-seek-clause-opened : goal.returns-in-Ok-seek-clause-opened
returns-in-Ok-seek-clause-opened g c = λ image told.
    let tree = tree_in g.K.TreeKey.shape c.args.site.now (g.N.Namer.named c.args.namer) image in
    let then = c.in-Ok.ensures.kept.same_bytes ∙ told in
    let on = c.in-Ok.ensures.within image told in
    let within = c.in-Ok-seek.ensures.within image then on in
    let same_tree : tree_of c.in-Ok.cursor image ≡ tree = ap (λ (t : List ℕ → Tree _). t image) c.in-Ok.ensures.tree in
    let same_root : root_of c.in-Ok.cursor ≡ c.args.root = c.in-Ok.ensures.root in
    let end : IsSuffix (left_of c.seek.new.self image) (flat_of tree c.args.root) =
    subst (λ (ps : List Pair). IsSuffix (left_of c.seek.new.self image) ps)
    (ap (λ (t : List ℕ → Tree _). flat_of (t image) (root_of c.seek.new.self)) (c.in-Ok-seek.ensures.tree ∙ c.in-Ok.ensures.tree) ∙ ap (flat_of tree) (c.in-Ok-seek.ensures.root ∙ same_root))
    (flat-suffix image c.seek.new.self within) in
    collected_none tree c.args.root c.args.id (gapped_left_of c.seek.new.self image)
    (tree-readable g.K.TreeKey.shape c.args.site.now (g.N.Namer.named c.args.namer) image c.args.root)
    end
    (λ ordered.
    let at : is_ordered g.K.TreeKey.shape (line_of (tree_of c.in-Ok.cursor image) (root_of c.in-Ok.cursor)) ≡ true =
    ap (λ (t : Tree _). is_ordered g.K.TreeKey.shape (line_of t (root_of c.in-Ok.cursor))) same_tree ∙ (ap (λ (r : ℕ). is_ordered g.K.TreeKey.shape (line_of tree r)) same_root ∙ ordered) in
    ap all_flat (c.in-Ok-seek.ensures.left image then on at)
    ∙ (ap (λ (t : Tree _). all_flat (gapped_from_rank g.K.TreeKey.shape (stream_rank c.args.id 0) (gapped_of t (root_of c.in-Ok.cursor)))) same_tree
    ∙ ap (λ (r : ℕ). all_flat (gapped_from_rank g.K.TreeKey.shape (stream_rank c.args.id 0) (gapped_of tree r))) same_root))

pub returns-in-Err-seek-clause-present : goal.returns-in-Err-seek-clause-present
returns-in-Err-seek-clause-present g c = λ image told.
    let tree = tree_in g.K.TreeKey.shape c.args.site.now (g.N.Namer.named c.args.namer) image in
    let same_tree : tree_of c.in-Ok.cursor image ≡ tree = ap (λ (t : List ℕ → Tree _). t image) c.in-Ok.ensures.tree in
    let named = c.in-Err-seek.ensures.present image (c.in-Ok.ensures.kept.same_bytes ∙ told) (c.in-Ok.ensures.within image told) in
    let there = subst (λ (root : ℕ). Tells (IsNodeFault tree root) (HasFeature tree root) c.in-Err-seek.stop) c.in-Ok.ensures.root
    (subst (λ (t : Tree _). Tells (IsNodeFault t (root_of c.in-Ok.cursor)) (HasFeature t (root_of c.in-Ok.cursor)) c.in-Err-seek.stop) same_tree named) in
    subst (Tells (IsCollectStop c.args.site.now tree c.args.root c.args.id) (HasFeature tree c.args.root)) (sym c.raise-in-Err-seek.ensures)
    (walk_tells c.args.site.now tree c.args.root c.args.id c.in-Err-seek.stop there)
