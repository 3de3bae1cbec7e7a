use Rattle.std.proofs.Common.{◌≡◌, false, take}
use Rattle.apfs_model.specs.Lists.{In}
use Rattle.omap_map.specs.Records.{is_deleted}
use Rattle.omap_map.specs.declared.records.OmapRecord.{OmapRecord}
use Rattle.view_sweep.specs.Unused.{used_in}
use Rattle.view_sweep.proofs.idle.first_idle.Given as goal

abbrev pub invariant-loop-mapping : goal.invariant-loop-mapping
invariant-loop-mapping l = (r : OmapRecord) → In r (take l.mapping-index l.of.records.now) → is_deleted r.flags ≡ false → In (used_in l.of.map r) l.sorted
