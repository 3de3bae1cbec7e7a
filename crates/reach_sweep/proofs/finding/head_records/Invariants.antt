use Rattle.std.proofs.Common.{◌≡◌, take}
use Rattle.std.specs.List.{filter_map}
use Rattle.reach_sweep.specs.Used.{found_of}
use Rattle.reach_sweep.proofs.finding.head_records.Given as goal

abbrev pub invariant-loop-i : goal.invariant-loop-i
invariant-loop-i l = l.found.items ≡ filter_map (found_of l.cp l.omap.records) (take l.i l.volumes)
