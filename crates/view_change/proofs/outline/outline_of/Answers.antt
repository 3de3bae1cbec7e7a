use Rattle.std.proofs.Common.{rules, ◌≡◌, ◌∙◌, ◌+◌, ℕ, List, arith}
use Rattle.std.proofs.lemmas.Grind.{common_steps}
use Rattle.bt_cursor.specs.Tree.{Tree, tree_in}
use Rattle.view_change.specs.Outline.{IsOutlined}
use Rattle.view_change.proofs.Outlines.{outline-few}
use Rattle.view_change.proofs.Passes.{at-some}
use Rattle.view_change.proofs.outline.outline_of.Goals as goal

pub levels-init : goal.levels-init
levels-init g c =
    let reads = g.S.BlockSource.reads in
    let tree : List ℕ → Tree g.row.K.Denot = tree_in g.K.TreeKey.shape c.args.site.now (g.N.Namer.named c.args.namer.now) in
    record {
      outlined = λ image told. at-some c.in_ok-outline.field-0 c.in-Some.outline (IsOutlined (tree image) c.args.root (reads c.args.src.now) (reads c.top.new.src)) c.in-Some.is (c.in_ok-outline.ensures.outlined image told);
      long = first_of (search rules, grind (arith, common_steps));
      kept = first_of (search rules, grind (arith, common_steps));
    }

pub levels-preserved : goal.levels-preserved
levels-preserved g c =
    let reads = g.S.BlockSource.reads in
    let tree : List ℕ → Tree g.row.K.Denot = tree_in g.K.TreeKey.shape c.args.site.now (g.N.Namer.named c.args.namer.now) in
    let old = c.levels.invariant in
    record {
      outlined = λ image told. at-some c.in_ok-lower.field-0 c.in-Some-2.lower (IsOutlined (tree image) c.args.root (reads c.args.src.now) (reads c.below.new.src)) c.in-Some-2.is
          (c.in_ok-lower.ensures.outlined image c.args.root (reads c.args.src.now) (old.kept.same_bytes ∙ told) (old.outlined image told));
      long = first_of (search rules, grind (arith, common_steps));
      kept = first_of (search rules, grind (arith, common_steps));
    }

pub levels-smaller : goal.levels-smaller
levels-smaller g c = let down : c.in-Some-2.lower.level + 1 ≡ c.levels.outline.level = at-some c.in_ok-lower.field-0 c.in-Some-2.lower (λ lower. lower.level + 1 ≡ c.levels.outline.level) c.in-Some-2.is c.in_ok-lower.ensures.level in omega (arith, down)

pub returns-in_default-2-clause-reads : goal.returns-in_default-2-clause-reads
returns-in_default-2-clause-reads g c image told =
    let reads = g.S.BlockSource.reads in
    let tree = tree_in g.K.TreeKey.shape c.args.site.now (g.N.Namer.named c.args.namer.now) image in
    omega (arith, c.below.ensures.reads, outline-few tree c.args.root (reads c.args.src.now) (reads c.levels.src) c.levels.outline (c.levels.invariant.outlined image told))

pub returns-in_err-lower-clause-reads : goal.returns-in_err-lower-clause-reads
returns-in_err-lower-clause-reads g c image told =
    let reads = g.S.BlockSource.reads in
    let tree = tree_in g.K.TreeKey.shape c.args.site.now (g.N.Namer.named c.args.namer.now) image in
    omega (arith, c.below.ensures.reads, outline-few tree c.args.root (reads c.args.src.now) (reads c.levels.src) c.levels.outline (c.levels.invariant.outlined image told))

pub returns-clause-reads : goal.returns-clause-reads
returns-clause-reads g c image told =
    let reads = g.S.BlockSource.reads in
    let tree = tree_in g.K.TreeKey.shape c.args.site.now (g.N.Namer.named c.args.namer.now) image in
    omega (arith, outline-few tree c.args.root (reads c.args.src.now) (reads c.levels.src) c.levels.outline (c.levels.invariant.outlined image told))
