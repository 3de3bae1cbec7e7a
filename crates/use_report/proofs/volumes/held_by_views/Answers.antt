use Rattle.std.proofs.Common.{◌^◌, ◌<◌, ◌∙◌, arith}
use Rattle.use_report.proofs.Told.{holdings-held}
use Rattle.use_report.proofs.volumes.held_by_views.Goals as goal

pub returns-in-Ok-clause-held : goal.returns-in-Ok-clause-held
returns-in-Ok-clause-held g c image told seen s v given =
    let site = c.args.site.now in
    let few : site.blocks < 2 ^ 64 = omega arith in
    holdings-held image seen c.args.volume.now site c.args.views.now c.in-Ok.pieces s v given few (c.in-Ok.ensures.held image (c.held_by_sweep.ensures.kept.same_bytes ∙ told))
