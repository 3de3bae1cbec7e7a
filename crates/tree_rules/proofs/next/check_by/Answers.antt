use Rattle.std.proofs.Common.{◌≡◌, ◌+◌, ◌≤◌, sym, subst}
use Rattle.std.specs.Prelude.{Option, IfSome}
use Rattle.view_change.specs.declared.kept_view.KeptView.{KeptView}
use Rattle.view_change.specs.Shared.{ShareLeaves}
use Rattle.view_change.specs.Kept.{leaves_of}
use Rattle.view_change.specs.Difference.{view_leaves, new_nodes}
use Rattle.tree_rules.specs.Known.{IsKnownBefore, IsCheckedNext, extents_before}
use Rattle.tree_rules.proofs.next.check_by.Goals as goal

pub returns-in-Ok-clause-clear : goal.returns-in-Ok-clause-clear
returns-in-Ok-clause-clear g c image told known =
    let asked = c.args.asked.now in
    let site = asked.site.now in
    let ranges = asked.ranges.now in
    let volume = c.args.volume.now in
    let one = subst (λ (o : Option KeptView). IsKnownBefore asked.profile image site volume ranges o) c.in-Some.is known in
    subst (λ (o : Option KeptView). IfSome c.in-Ok.found (IsCheckedNext asked.profile image site volume ranges asked.view.now (extents_before o))) (sym c.in-Some.is) (c.in-Ok.ensures.clear image one.0 told one.1)

pub returns-in-Err-clause-present : goal.returns-in-Err-clause-present
returns-in-Err-clause-present g c image told known =
    let asked = c.args.asked.now in
    let one = subst (λ (o : Option KeptView). IsKnownBefore asked.profile image asked.site.now c.args.volume.now asked.ranges.now o) c.in-Some.is known in
    c.in-Err.ensures.present image one.0 told one.1

pub returns-in-Ok-clause-reads_new : goal.returns-in-Ok-clause-reads_new
returns-in-Ok-clause-reads_new g c image kept told is shares =
    let asked = c.args.asked.now in
    let reads = g.S.BlockSource.reads in
    let one : c.in-Some.before ≡ kept = (cc) in
    let Within : KeptView → Type 0 = λ view. ShareLeaves (leaves_of view) (view_leaves image asked.site.now c.args.volume.now asked.view.now)
    → IfSome c.in-Ok.found (λ next. reads c.check_after.new.src ≤ reads c.args.src.now + new_nodes image asked.site.now c.args.volume.now asked.view.now (leaves_of view)) in
    subst Within one (c.in-Ok.ensures.reads_new image told) shares
