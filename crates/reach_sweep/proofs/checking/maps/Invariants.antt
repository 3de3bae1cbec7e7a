use Rattle.std.proofs.Common.{◌≡◌, take, map}
use Rattle.reach_sweep.specs.Used.{maps_of, told_by_map}
use Rattle.reach_sweep.proofs.checking.maps.Given as goal

abbrev pub invariant-loop-volume : goal.invariant-loop-volume
invariant-loop-volume l = map told_by_map l.maps.items ≡ map told_by_map (maps_of l.cp (take l.volume-index l.volumes) l.records)
