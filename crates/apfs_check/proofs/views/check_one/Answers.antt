use Rattle.std.proofs.Common.{◌≡◌, ◌+◌, ◌*◌, ◌<◌, ◌≤◌, length, sym, ap, subst, arith}
use Rattle.std.specs.Prelude.{IfOk, IfErr}
use Rattle.std.proofs.lemmas.Bool.Decides.{nat_tests}
use Rattle.obj_base.specs.Stops.{Tells}
use Rattle.obj_base.specs.declared.site.Site.{Site}
use Rattle.nx_ring.specs.Checkpoint.{site_of}
use Rattle.vol_view.specs.Placed.{view_nodes}
use Rattle.vol_view.specs.Views.{IsViewFeature}
use Rattle.vol_view.specs.Volumes.{Loaded}
use Rattle.view_rules.specs.Rules.{IsTreeFault}
use Rattle.tree_rules.specs.Known.{IsCheckedNext, IsKnownBefore, extents_before}
use Rattle.apfs_check.specs.Reads.{view_reads}
use Rattle.apfs_check.proofs.Spent.{ok-more, view-once, view-twice}
use Rattle.apfs_check.proofs.views.check_one.Goals as goal

pub returns-then-is_empty-clause-clear : goal.returns-then-is_empty-clause-clear
returns-then-is_empty-clause-clear g c image told known =
    let profile = c.args.profile in
    let volume = c.args.volume.now in
    let ranges = c.args.ranges.now in
    subst (λ (s : Site). IfOk c.check_alone.result (IsCheckedNext profile image s volume ranges c.args.view.now (extents_before c.args.before))) c.site-site.ensures (c.check_alone.ensures.clear image (extents_before c.args.before) told)

pub returns-then-is_empty-clause-present : goal.returns-then-is_empty-clause-present
returns-then-is_empty-clause-present g c image told known =
    let profile = c.args.profile in
    let volume = c.args.volume.now in
    let ranges = c.args.ranges.now in
    subst (λ (s : Site). IfErr c.check_alone.result (Tells (IsTreeFault profile image s volume c.args.view.now ranges) (IsViewFeature image s volume c.args.view.now))) c.site-site.ensures (c.check_alone.ensures.present image told)

pub returns-then-is_empty-clause-reads : goal.returns-then-is_empty-clause-reads
returns-then-is_empty-clause-reads g c image told known =
    let reads = g.S.BlockSource.reads in
    let volume = c.args.volume.now in
    let view = c.args.view.now in
    let old = reads c.args.src.now in
    let new = reads c.check_alone.new.src in
    ok-more c.check_alone.result (new ≤ old + length (view_nodes image c.site-site.result volume view)) (new ≤ old + view_reads image (site_of c.args.cp.now) volume view)
    (λ few. view-once image (site_of c.args.cp.now) volume view old new (subst (λ (s : Site). new ≤ old + length (view_nodes image s volume view)) c.site-site.ensures few)) (c.check_alone.ensures.reads image told)

pub returns-clause-clear : goal.returns-clause-clear
returns-clause-clear g c image told known =
    let profile = c.args.profile in
    let volume = c.args.volume.now in
    let ranges = c.args.ranges.now in
    let known_here = subst (λ (s : Site). IsKnownBefore profile image s volume ranges c.args.before) (sym c.site-site.ensures) known in
    subst (λ (s : Site). IfOk c.check_next.result (IsCheckedNext profile image s volume ranges c.args.view.now (extents_before c.args.before))) c.site-site.ensures (c.check_next.ensures.clear image told known_here)

pub returns-clause-present : goal.returns-clause-present
returns-clause-present g c image told known =
    let profile = c.args.profile in
    let volume = c.args.volume.now in
    let ranges = c.args.ranges.now in
    let known_here = subst (λ (s : Site). IsKnownBefore profile image s volume ranges c.args.before) (sym c.site-site.ensures) known in
    subst (λ (s : Site). IfErr c.check_next.result (Tells (IsTreeFault profile image s volume c.args.view.now ranges) (IsViewFeature image s volume c.args.view.now))) c.site-site.ensures (c.check_next.ensures.present image told known_here)

pub returns-clause-reads : goal.returns-clause-reads
returns-clause-reads g c image told known =
    let reads = g.S.BlockSource.reads in
    let volume = c.args.volume.now in
    let view = c.args.view.now in
    let old = reads c.args.src.now in
    let new = reads c.check_next.new.src in
    let known_here = subst (λ (s : Site). IsKnownBefore c.args.profile image s volume c.args.ranges.now c.args.before) (sym c.site-site.ensures) known in
    let same : length c.volume.inside.snaps.items ≡ length volume.snaps = ap (λ (v : Loaded). length v.snaps) c.volume.view_is in
    let inside : 0 < length c.volume.inside.snaps.items = grind (arith, nat_tests, c.volume.inside.snaps.ok.0, c.is_empty.ensures, c.if-is_empty.false) in
    let some : 0 < length volume.snaps = omega (arith, same, inside) in
    ok-more c.check_next.result (new ≤ old + 2 * length (view_nodes image c.site-site.result volume view)) (new ≤ old + view_reads image (site_of c.args.cp.now) volume view)
    (λ few. view-twice image (site_of c.args.cp.now) volume view old new some (subst (λ (s : Site). new ≤ old + 2 * length (view_nodes image s volume view)) c.site-site.ensures few)) (c.check_next.ensures.reads image told known_here)
