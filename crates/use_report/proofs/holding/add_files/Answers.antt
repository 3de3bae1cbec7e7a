use Rattle.std.proofs.Common.{refl, sym, subst}
use Rattle.obj_base.specs.Stops.{Tells}
use Rattle.vol_view.specs.Views.{IsViewFeature}
use Rattle.use_report.specs.Holding.{IsFilesFault}
use Rattle.use_report.proofs.Filled.{files-added}
use Rattle.use_report.proofs.Stopped.{files-told, outside-extent, never-outside}
use Rattle.use_report.proofs.holding.add_files.Goals as goal

pub returns-in-Err-clause-present : goal.returns-in-Err-clause-present
returns-in-Err-clause-present g c image told =
    let site = c.args.site.now in
    let volume = c.args.volume.now in
    let view = c.args.view.now in
    subst (Tells (IsFilesFault image site volume view) (IsViewFeature image site volume view)) (sym c.of_files.ensures) (files-told image site volume view c.in-Err.stop (c.in-Err.ensures.present image told))

pub returns-then-not-placed-clause-present : goal.returns-then-not-placed-clause-present
returns-then-not-placed-clause-present g c image told =
    (refl, outside-extent image c.args.site.now c.args.volume.now c.args.view.now _ (c.in_ok-placed.ensures.leaves c.if-not-placed.true) (cc ((c.in-Ok.ensures.clear image told).extents)))

pub returns-then-not-placed-clause-exact : goal.returns-then-not-placed-clause-exact
returns-then-not-placed-clause-exact g c image told right =
    absurd (never-outside image c.args.site.now c.args.volume.now c.args.view.now right
    (outside-extent image c.args.site.now c.args.volume.now c.args.view.now _ (c.in_ok-placed.ensures.leaves c.if-not-placed.true) (cc ((c.in-Ok.ensures.clear image told).extents))))

pub returns-clause-added : goal.returns-clause-added
returns-clause-added g c image told =
    files-added image c.args.site.now c.args.volume.now c.args.view.now c.in-Ok.files _ _ c.args.held.now c.add_named.new.held c.add_nodes.new.held c.add_extents.new.held (c.in-Ok.ensures.clear image told)
    c.in_ok-add_named.ensures c.in_ok-add_nodes.ensures (c.in_ok-placed.ensures.added c.if-not-placed.false) (c.in_ok-placed.ensures.inside c.if-not-placed.false) (cc) (cc)
