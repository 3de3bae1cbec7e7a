use Rattle.std.proofs.Common.{take}
use Rattle.bt_node.specs.Entries.{pairs_of}
use Rattle.use_report.specs.Counted.{Grows}
use Rattle.use_report.specs.Leaves.{IsOfRecords, ArePlacedRecords}
use Rattle.use_report.proofs.leaves.add_records.Given as goal

abbrev pub invariant-records : goal.invariant-records
invariant-records g l = record {
  added : Grows l.fn.held l.held (IsOfRecords l.site (take l.i (pairs_of g.K.TreeKey.shape l.node)));
  placed : ArePlacedRecords l.site (take l.i (pairs_of g.K.TreeKey.shape l.node));
}
