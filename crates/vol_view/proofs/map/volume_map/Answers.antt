use Rattle.std.proofs.Common.{◌∙◌, sym, ap, subst}
use Rattle.obj_base.specs.Stops.{Tells}
use Rattle.vol_view.specs.Fields.{omap_oid_of}
use Rattle.vol_view.specs.LoadStops.{IsLoadStop, IsLoadFeature}
use Rattle.vol_view.proofs.LoadSteps.{map-tells, map-marked}
use Rattle.vol_view.proofs.map.volume_map.Goals as goal

pub returns-in-Err-clause-present : goal.returns-in-Err-clause-present
returns-in-Err-clause-present g c image told head same =
    let site = c.args.site.now in
    subst (Tells (IsLoadStop image site head) (IsLoadFeature image site head)) (sym c.raise.ensures)
    (map-tells image site head c.omap_oid-block.result c.in-Err.stop (c.omap_oid-block.ensures ∙ ap omap_oid_of same) (c.in-Err.ensures.present image told))

pub returns-then-has_marked-clause-present : goal.returns-then-has_marked-clause-present
returns-then-has_marked-clause-present g c image told head same =
    map-marked image c.args.site.now head c.omap_oid-block.result c.in-Ok.omap (c.in-Ok.ensures.clear image told) (c.omap_oid-block.ensures ∙ ap omap_oid_of same) (sym c.has_marked.ensures ∙ c.if-has_marked.true)

pub returns-then-has_marked-clause-clear : goal.returns-then-has_marked-clause-clear
returns-then-has_marked-clause-clear g c image told = tt

pub returns-then-has_marked-clause-reads : goal.returns-then-has_marked-clause-reads
returns-then-has_marked-clause-reads g c image told = tt

pub returns-clause-present : goal.returns-clause-present
returns-clause-present g c image told head same = tt
