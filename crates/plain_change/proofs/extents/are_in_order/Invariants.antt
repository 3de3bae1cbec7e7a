use Rattle.std.proofs.Common.{◌≡◌, ◌≤◌, true, map, take}
use Rattle.apfs_model.specs.Lists.{In}
use Rattle.fs_record.specs.Facts.{Fact}
use Rattle.fs_record.specs.StreamExtents.{extent_end, are_extents_ordered}
use Rattle.fs_record.specs.declared.extents.FileExt.{FileExt}
use Rattle.plain_change.proofs.extents.are_in_order.Given as goal

abbrev pub invariant-loop-f : goal.invariant-loop-f
invariant-loop-f l =
    (are_extents_ordered l.block_size (map (λ (f : Fact FileExt). f.what) (take l.f-index l.run)) ≡ true)
    × ((x : FileExt) → In x (map (λ (f : Fact FileExt). f.what) (take l.f-index l.run)) → extent_end x ≤ l.end)
