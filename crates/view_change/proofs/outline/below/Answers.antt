use Rattle.std.proofs.Common.{rules, ◌≡◌, ◌∙◌, ◌-◌, ◌≤◌, ◌+◌, suc, true, ℕ, List, ap, subst, arith, refl}
use Rattle.std.proofs.lemmas.Grind.{common_steps}
use Rattle.std.proofs.lemmas.List.{take_all}
use Rattle.bt_cursor.specs.Tree.{Tree, tree_in}
use Rattle.view_change.specs.Outline.{reads_in}
use Rattle.view_change.proofs.Outlines.{AreOpened, opened-none, opened-next, left-next, part-left, outline-down}
use Rattle.view_change.proofs.outline.below.Goals.{After-put_below}
use Rattle.view_change.proofs.outline.below.Goals as goal

pub separators-init : goal.separators-init
separators-init g c = record {
  opened = λ image told. opened-none (tree_in g.K.TreeKey.shape c.args.site.now (g.N.Namer.named c.args.namer.now) image) c.args.outline.now.level c.new-separators.result.items c.new-separators.ensures.items;
  few = omega arith;
  kept = first_of (search rules, grind (arith, common_steps));
}

pub separators-preserved : goal.separators-preserved
separators-preserved g c =
    let there : c.in_ok-put_below.field-0 ≡ true = search rules in
    let old = c.separators.invariant in
    let same = old.kept.same_bytes in
    let reads = g.S.BlockSource.reads in
    let tree : List ℕ → Tree g.row.K.Denot = tree_in g.K.TreeKey.shape c.args.site.now (g.N.Namer.named c.args.namer.now) in
    let all = c.deref-next-items.result.now in
    let i = c.separators.next-index in
    record {
      opened = λ image told. opened-next (tree image) c.args.outline.now.level all i _ c.separators.separators.items c.put_below.new.into.items c.separators-test.true (old.opened image told) (c.in_ok-put_below.ensures.below image (same ∙ told) there)
          (c.in_ok-put_below.ensures.there image (same ∙ told) there);
      few = left-next all i _ (reads c.args.src.now) (reads c.separators.src) (reads c.put_below.new.src) c.separators-test.true old.few c.put_below.ensures.reads;
      kept = first_of (search rules, grind (arith, common_steps));
    }

pub returns-clause-outlined : goal.returns-clause-outlined
returns-clause-outlined g c image root start told outlined =
    let old = c.separators.invariant in
    let reads = g.S.BlockSource.reads in
    let tree = tree_in g.K.TreeKey.shape c.args.site.now (g.N.Namer.named c.args.namer.now) image in
    let outline = c.args.outline.now in
    let lower = c.separators.separators.items in
    let whole = take_all c.separators.next-index c.deref-next-items.result.now c.separators-test.false ∙ c.deref-next-items.ensures.value in
    let opened = subst (λ xs. AreOpened tree outline.level xs lower) whole (old.opened image told) in
    let few : reads c.separators.src ≤ reads c.args.src.now + reads_in outline.separators.items = omega (arith, old.few, ap reads_in whole) in
    let down : outline.level ≡ suc (outline.level - 1) = omega (arith, c.requires.upper) in
    outline-down tree root start (reads c.args.src.now) (reads c.separators.src) outline _ outlined down refl opened few

-- no more is read than separators ask for
few-so-far : (g : _) (c : After-put_below g) → g.S.BlockSource.reads c.put_below.new.src ≤ g.S.BlockSource.reads c.args.src.now + reads_in c.args.outline.now.separators.items
few-so-far g c =
    let reads = g.S.BlockSource.reads in
    part-left c.deref-next-items.result.now c.args.outline.now.separators.items c.separators.next-index _ (reads c.args.src.now) (reads c.separators.src) (reads c.put_below.new.src) c.deref-next-items.ensures.value c.separators-test.true c.separators.invariant.few c.put_below.ensures.reads

pub returns-in_err-put_below-clause-reads : goal.returns-in_err-put_below-clause-reads
returns-in_err-put_below-clause-reads g c = few-so-far g (goal.at.returns-in_err-put_below-clause-reads g c).After-put_below

pub returns-then-not-branch-clause-reads : goal.returns-then-not-branch-clause-reads
returns-then-not-branch-clause-reads g c = few-so-far g (goal.at.returns-then-not-branch-clause-reads g c).After-put_below

pub returns-then-len-site-clause-reads : goal.returns-then-len-site-clause-reads
returns-then-len-site-clause-reads g c = few-so-far g (goal.at.returns-then-len-site-clause-reads g c).After-put_below
