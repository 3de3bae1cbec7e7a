use Rattle.std.proofs.Common.{◌≡◌, true, take}
use Rattle.apfs_model.specs.Lists.{In}
use Rattle.fs_record.specs.StreamExtents.{is_extent_placed}
use Rattle.fs_record.specs.declared.extents.FileExt.{FileExt}
use Rattle.use_report.specs.Counted.{Grows}
use Rattle.use_report.specs.Files.{IsCoveredBlock}
use Rattle.use_report.proofs.holding.add_extents.Given as goal

abbrev pub invariant-extents : goal.invariant-extents
invariant-extents l = record {
  grows : Grows l.fn.held l.held (IsCoveredBlock l.site (take l.extent-index l.extents));
  inside : (e : FileExt) → In e (take l.extent-index l.extents) → is_extent_placed l.site.block_size l.site.blocks e ≡ true;
}
