use Rattle.std.proofs.Common.{◌≡◌, ℕ, List, [], ◌∷◌, ◌++◌, Some, None, ap, sym, ◌∙◌, subst, arith}
use Rattle.std.specs.Bool.{MatchBool}
use Rattle.obj_base.specs.Stops.{Tells}
use Rattle.bt_cursor.specs.Tree.{Tree, tree_in}
use Rattle.bt_cursor.specs.Faults.{HasFeature}
use Rattle.bt_cursor.specs.Cursors.{tree_of, gapped_left_of}
use Rattle.file_extent.specs.Laid.{AreLaid}
use Rattle.file_extent.specs.Collected.{IsCollected, IsCollectStop, IsMisordered}
use Rattle.file_extent.proofs.Lays.{laid-none}
use Rattle.file_extent.proofs.Steps.{went_on}
use Rattle.file_extent.proofs.Misorders.{misordered, add_tells}
use Rattle.file_extent.proofs.collect.collect.Goals as goal

pub walk-init : goal.walk-init
walk-init g c = record {
  same_site = c.in-Ok.ensures.site;
  same_root = c.in-Ok.ensures.root;
  same_tree = c.in-Ok.ensures.tree;
  kept = c.in-Ok.ensures.kept;
  laid = subst (AreLaid c.args.site.now) (sym c.new-extents.ensures.items) (laid-none c.args.site.now);
  within = c.in-Ok.ensures.within;
  collected = λ image told.
      subst (IsCollected (tree_in g.K.TreeKey.shape c.args.site.now (g.N.Namer.named c.args.namer) image) c.args.root c.args.id (gapped_left_of c.in-Ok.cursor image)) (sym c.new-extents.ensures.items) (c.in-Ok.ensures.opened image told);
}

pub returns-in-Ok-None-clause-all : goal.returns-in-Ok-None-clause-all
returns-in-Ok-None-clause-all g c = λ image told.
    let tree = tree_in g.K.TreeKey.shape c.args.site.now (g.N.Namer.named c.args.namer) image in
    let before = c.walk.invariant in
    went_on (tree_of c.walk.cursor image) tree c.args.root c.args.id (gapped_left_of c.walk.cursor image) (gapped_left_of c.step.new.cursor image) c.walk.extents.items c.in-Ok-None.field-0 None
    (ap (λ (t : List ℕ → Tree _). t image) before.same_tree) c.in-Ok-None.field-0-is
    (c.in-Ok-None.ensures.goes_on image (before.kept.same_bytes ∙ told) c.walk.extents.items) (before.collected image told)

pub returns-in-Err-step-clause-present : goal.returns-in-Err-step-clause-present
returns-in-Err-step-clause-present g c = λ image told.
    let before = c.walk.invariant in
    subst (λ (t : Tree _). Tells (IsCollectStop c.args.site.now t c.args.root c.args.id) (HasFeature t c.args.root) c.in-Err-step.stop)
    (ap (λ (t : List ℕ → Tree _). t image) before.same_tree)
    (c.in-Err-step.ensures.present image (before.kept.same_bytes ∙ told) (before.within image told))

pub walk-preserved : goal.walk-preserved
walk-preserved g c =
    let before = c.walk.invariant in
    let after = c.in-Ok-Some.ensures in
    let put = subst (λ b. MatchBool b (c.lay.new.extents.items ≡ c.walk.extents.items ++ c.in-Ok-Some.extent ∷ []) (IsMisordered c.walk.extents.items c.in-Ok-Some.extent)) c.in-Ok-true.field-0-test c.in-Ok-true.ensures.put in
    record {
      same_site = after.site ∙ before.same_site;
      same_root = after.root ∙ before.same_root;
      same_tree = after.tree ∙ before.same_tree;
      kept = record {
        same_bytes = after.kept.same_bytes ∙ before.kept.same_bytes;
        same_size = after.kept.same_size ∙ before.kept.same_size;
        later = omega (arith, after.kept.later, before.kept.later);
      };
      laid = c.in-Ok-true.ensures.laid c.in-Ok-true.field-0-test;
      within = λ image told. after.within image (before.kept.same_bytes ∙ told) (before.within image told);
      collected = λ image told.
          let tree = tree_in g.K.TreeKey.shape c.args.site.now (g.N.Namer.named c.args.namer) image in
          subst (IsCollected tree c.args.root c.args.id (gapped_left_of c.step.new.cursor image)) (sym put)
          (went_on (tree_of c.walk.cursor image) tree c.args.root c.args.id (gapped_left_of c.walk.cursor image) (gapped_left_of c.step.new.cursor image) c.walk.extents.items c.in-Ok-Some.field-0 (Some c.in-Ok-Some.extent)
          (ap (λ (t : List ℕ → Tree _). t image) before.same_tree) c.in-Ok-Some.field-0-is
          (after.goes_on image (before.kept.same_bytes ∙ told) c.walk.extents.items) (before.collected image told));
    }

pub returns-in-Ok-false-clause-all : goal.returns-in-Ok-false-clause-all
returns-in-Ok-false-clause-all g c = λ image told.
    let tree = tree_in g.K.TreeKey.shape c.args.site.now (g.N.Namer.named c.args.namer) image in
    let before = c.walk.invariant in
    let wrong = subst (λ b. MatchBool b (c.lay.new.extents.items ≡ c.walk.extents.items ++ c.in-Ok-Some.extent ∷ []) (IsMisordered c.walk.extents.items c.in-Ok-Some.extent)) c.in-Ok-false.field-0-test c.in-Ok-false.ensures.put in
    misordered tree c.args.root c.args.id (gapped_left_of c.step.new.cursor image) c.walk.extents.items c.in-Ok-Some.extent
    (went_on (tree_of c.walk.cursor image) tree c.args.root c.args.id (gapped_left_of c.walk.cursor image) (gapped_left_of c.step.new.cursor image) c.walk.extents.items c.in-Ok-Some.field-0 (Some c.in-Ok-Some.extent)
    (ap (λ (t : List ℕ → Tree _). t image) before.same_tree) c.in-Ok-Some.field-0-is
    (c.in-Ok-Some.ensures.goes_on image (before.kept.same_bytes ∙ told) c.walk.extents.items) (before.collected image told))
    wrong

pub returns-in-Err-lay-clause-present : goal.returns-in-Err-lay-clause-present
returns-in-Err-lay-clause-present g c = λ image told.
    let tree = tree_in g.K.TreeKey.shape c.args.site.now (g.N.Namer.named c.args.namer) image in
    let before = c.walk.invariant in
    add_tells c.args.site.now tree c.args.root c.args.id (gapped_left_of c.step.new.cursor image) (c.walk.extents.items ++ c.in-Ok-Some.extent ∷ []) c.in-Err-lay.stop
    (went_on (tree_of c.walk.cursor image) tree c.args.root c.args.id (gapped_left_of c.walk.cursor image) (gapped_left_of c.step.new.cursor image) c.walk.extents.items c.in-Ok-Some.field-0 (Some c.in-Ok-Some.extent)
    (ap (λ (t : List ℕ → Tree _). t image) before.same_tree) c.in-Ok-Some.field-0-is
    (c.in-Ok-Some.ensures.goes_on image (before.kept.same_bytes ∙ told) c.walk.extents.items) (before.collected image told))
    c.in-Err-lay.ensures.present
