use Rattle.std.proofs.Common.{◌≡◌, ◌∙◌, ◌+◌, ◌≤◌, List, sym, subst, arith}
use Rattle.std.specs.Prelude.{Option, None, Some, IfSome}
use Rattle.tree_rules.specs.Known.{IsCheckedNext, extents_before}
use Rattle.tree_rules.specs.declared.next.CheckedNext.{CheckedNext}
use Rattle.view_change.specs.declared.leaf.Leaf.{Leaf}
use Rattle.view_change.specs.declared.kept_view.KeptView.{KeptView}
use Rattle.view_change.specs.Shared.{ShareLeaves}
use Rattle.view_change.specs.Kept.{leaves_of}
use Rattle.view_change.specs.Difference.{view_leaves, new_nodes}
use Rattle.view_change.proofs.Places.{places-nodes}
use Rattle.tree_rules.proofs.next.check_next.Goals as goal

pub returns-in-Ok-Some-clause-reads : goal.returns-in-Ok-Some-clause-reads
returns-in-Ok-Some-clause-reads g c image told known =
    let site = c.args.site.now in
    let volume = c.args.volume.now in
    let view = c.args.view.now in
    let checked = subst (λ (o : Option CheckedNext). IfSome o (IsCheckedNext c.args.profile image site volume c.args.ranges.now view (extents_before c.args.before))) c.in-Ok-Some.field-0-is (c.in-Ok-Some.ensures.clear image told known) in
    omega (arith, c.check_by.ensures.reads_met image told, places-nodes image site volume view checked.rules.walkable)

pub returns-in-Ok-clause-reads : goal.returns-in-Ok-clause-reads
returns-in-Ok-clause-reads g c image told known =
    let site = c.args.site.now in
    let volume = c.args.volume.now in
    let view = c.args.view.now in
    let read = c.check_by.ensures.kept.same_bytes ∙ told in
    omega (arith, c.check_by.ensures.reads_met image told, c.in-Ok.ensures.reads image read, places-nodes image site volume view (c.in-Ok.ensures.clear image read).walkable)

any-kept : (kept : Option KeptView) (P : Type 0) → P → IfSome kept (λ _. P)
any-kept None P h = tt
any-kept (Some view) P h = h

pub returns-in-Ok-Some-clause-reads_new : goal.returns-in-Ok-Some-clause-reads_new
returns-in-Ok-Some-clause-reads_new g c image earlier kept told is known shares =
    let site = c.args.site.now in
    let volume = c.args.volume.now in
    let view = c.args.view.now in
    let reads = g.S.BlockSource.reads in
    let Within : List Leaf → Type 0 = λ before. reads c.check_by.new.src ≤ reads c.args.src.now + new_nodes image site volume view before in
    let all : leaves_of kept ≡ view_leaves image site volume earlier = known.is.leaves_kept.listed ∙ known.is.all in
    let few = subst (λ (o : Option CheckedNext). IfSome o (λ _. Within (leaves_of kept))) c.in-Ok-Some.field-0-is (c.in-Ok-Some.ensures.reads_new image kept told is (subst (λ (ls : List Leaf). ShareLeaves ls (view_leaves image site volume view)) (sym all) shares)) in
    any-kept _ (Within (view_leaves image site volume earlier)) (subst Within all few)
