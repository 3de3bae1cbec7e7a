use Rattle.std.proofs.Common.{◌∙◌, List, map, ap, sym}
use Rattle.std.proofs.lemmas.List.{take_all}
use Rattle.vol_view.specs.Volumes.{Loaded}
use Rattle.view_sweep.specs.declared.idle.MapRecords.{MapRecords}
use Rattle.reach_sweep.specs.Used.{maps_of, told_by_map}
use Rattle.reach_sweep.proofs.Maps.{maps-more}
use Rattle.reach_sweep.proofs.checking.maps.Goals as goal

pub loop-volume-preserved : goal.loop-volume-preserved
loop-volume-preserved c =
    ap (λ (ms : List MapRecords). map told_by_map ms) c.in_ok-push-2.ensures.items
    ∙ maps-more c.args.cp.now c.args.records.now c.args.volumes.now c.loop-volume.volume-index c.volume-item.result c.loop-volume.maps.items c.volume_map-map.result c.loop-volume-test.true (sym c.volume-item.is) c.volume_map-map.ensures c.loop-volume.invariant

pub returns-clause-all : goal.returns-clause-all
returns-clause-all c = c.loop-volume.invariant ∙ ap (λ (vs : List Loaded). map told_by_map (maps_of c.args.cp.now vs c.args.records.now)) (take_all c.loop-volume.volume-index c.args.volumes.now c.loop-volume-test.false)
