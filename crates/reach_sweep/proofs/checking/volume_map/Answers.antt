use Rattle.std.proofs.Common.{◌≡◌, ap, ◌∙◌}
use Rattle.obj_base.specs.declared.stop.Within.TheVariants.{Volume}
use Rattle.vol_view.specs.Volumes.{Loaded}
use Rattle.reach_sweep.proofs.checking.volume_map.Goals as goal

pub returns : goal.returns
returns c =
    let volume : Loaded = c.args.volume.now in
    let slot : c.volume.inside.head.slot ≡ volume.head.slot = ap (λ (v : Loaded). v.head.slot) c.volume.view_is in
    let block : c.block.result ≡ volume.omap.block = c.block.ensures ∙ ap (λ (v : Loaded). v.omap.block) c.volume.view_is in
    let records : c.records.result.now ≡ volume.omap.records = c.records.ensures.all ∙ ap (λ (v : Loaded). v.omap.records) c.volume.view_is in
    λ i. (Volume (slot i), (block i, records i))
