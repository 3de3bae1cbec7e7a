use Rattle.std.proofs.Common.{rules, ◌≡◌, ◌∙◌, ◌+◌, ◌≤◌, ℕ, List, Some, true, length, sym, subst, arith}
use Rattle.bt_cursor.specs.Tree.{tree_in}
use Rattle.bt_cursor.specs.Met.{places_of}
use Rattle.view_change.specs.Leaves.{leaves_at, uppers_in}
use Rattle.view_change.specs.Outline.{IsOutlined}
use Rattle.view_change.proofs.Outlines.{outline-few}
use Rattle.view_change.proofs.TreeLeaves.{tree-leaves, tree-uppers}
use Rattle.view_change.proofs.Passes.{at-some}
use Rattle.view_change.proofs.walking.walk_leaves.Goals.{After-pass_all}
use Rattle.view_change.proofs.walking.walk_leaves.Goals as goal

-- what leads to the leaves is outlined
outlined : (g : _) (c : After-pass_all g) (image : List ℕ) → g.S.BlockSource.bytes c.args.src.now ≡ Some image →
    IsOutlined (tree_in g.K.TreeKey.shape c.args.site.now (g.N.Namer.named c.args.namer.now) image) c.args.root (g.S.BlockSource.reads c.args.src.now) (g.S.BlockSource.reads c.outline_of.new.src) c.in-Some.outline
outlined g c image told =
    let tree = tree_in g.K.TreeKey.shape c.args.site.now (g.N.Namer.named c.args.namer.now) image in
    at-some c.in_ok-outline.field-0 c.in-Some.outline (IsOutlined tree c.args.root (g.S.BlockSource.reads c.args.src.now) (g.S.BlockSource.reads c.outline_of.new.src)) c.in-Some.is (c.in_ok-outline.ensures.outlined image told)

-- no more is read than there are places
few-met : (g : _) (c : After-pass_all g) (image : List ℕ) → g.S.BlockSource.bytes c.args.src.now ≡ Some image →
    g.S.BlockSource.reads c.pass_all.new.src ≤ g.S.BlockSource.reads c.args.src.now + length (places_of (tree_in g.K.TreeKey.shape c.args.site.now (g.N.Namer.named c.args.namer.now) image) c.args.root)
few-met g c image told = omega (arith, c.pass_all.ensures.reads_met, outline-few _ _ _ _ _ (outlined g c image told))

pub returns-then-branch-clause-clear : goal.returns-then-branch-clause-clear
returns-then-branch-clause-clear g c start image told none =
    let whole : c.in_ok-pass_all.field-0 ≡ true = search rules in
    let these = outlined g (goal.at.returns-then-branch-clause-clear g c).After-pass_all image told in
    c.in_ok-pass_all.ensures.taken start image c.args.root (g.S.BlockSource.reads c.args.src.now) (c.outline_of.ensures.kept.same_bytes ∙ told) these (c.foresee.ensures.foreseen start c.args.site.now image none) whole

pub returns-then-branch-clause-reads : goal.returns-then-branch-clause-reads
returns-then-branch-clause-reads g c start image told none =
    let whole : c.in_ok-pass_all.field-0 ≡ true = search rules in
    let these = outlined g (goal.at.returns-then-branch-clause-reads g c).After-pass_all image told in
    c.in_ok-pass_all.ensures.reads start image c.args.root (g.S.BlockSource.reads c.args.src.now) (c.outline_of.ensures.kept.same_bytes ∙ told) these (c.foresee.ensures.foreseen start c.args.site.now image none) whole

pub returns-in_err-pass_all-clause-reads_met : goal.returns-in_err-pass_all-clause-reads_met
returns-in_err-pass_all-clause-reads_met g c = few-met g (goal.at.returns-in_err-pass_all-clause-reads_met g c).After-pass_all

pub returns-then-branch-clause-reads_met : goal.returns-then-branch-clause-reads_met
returns-then-branch-clause-reads_met g c = few-met g (goal.at.returns-then-branch-clause-reads_met g c).After-pass_all

pub returns-else-branch-clause-reads_met : goal.returns-else-branch-clause-reads_met
returns-else-branch-clause-reads_met g c = few-met g (goal.at.returns-else-branch-clause-reads_met g c).After-pass_all

pub returns-then-branch-clause-reads_new : goal.returns-then-branch-clause-reads_new
returns-then-branch-clause-reads_new g c image limit told begins =
    let reads = g.S.BlockSource.reads in
    let site = c.args.site.now in
    let named = g.N.Namer.named c.args.namer.now in
    let tree = tree_in g.K.TreeKey.shape site named image in
    let outline = c.in-Some.outline in
    let whole : c.in_ok-pass_all.field-0 ≡ true = search rules in
    let these = outlined g (goal.at.returns-then-branch-clause-reads_new g c).After-pass_all image told in
    let end : outline.level ≡ 0 = at-some c.in_ok-outline.field-0 outline (λ o. o.level ≡ 0) c.in-Some.is c.in_ok-outline.ensures.end in
    let most = reads c.args.src.now + length (uppers_in (places_of tree c.args.root)) in
    let same : leaves_at site named (places_of tree c.args.root) ≡ c.deref.result.now = tree-leaves tree site named c.args.root (reads c.args.src.now) (reads c.outline_of.new.src) outline these end ∙ (sym c.in_ok-leaves.ensures.all ∙ sym c.deref.ensures.value) in
    let few = tree-uppers tree c.args.root (reads c.args.src.now) (reads c.outline_of.new.src) outline these end in
    let goes = c.foresee.ensures.reads_new (reads c.outline_of.new.src) most limit (subst (λ ls. g.T.LeafTaker.begins_within c.args.taker ls most limit) same begins) few in
    c.in_ok-pass_all.ensures.reads_new limit (subst (λ ls. g.T.LeafTaker.goes_within c.foresee.new.self ls (reads c.outline_of.new.src) limit) (c.deref.ensures.value ∙ c.in_ok-leaves.ensures.all) goes) whole
