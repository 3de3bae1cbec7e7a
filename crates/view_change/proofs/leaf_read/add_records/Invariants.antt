-- The records so far are added.
use Rattle.std.proofs.Common.{take}
use Rattle.bt_node.specs.Entries.{pairs_of}
use Rattle.view_change.proofs.Joined.{AreAdded}
use Rattle.view_change.proofs.leaf_read.add_records.Given as goal

abbrev pub invariant-records : goal.invariant-records
invariant-records g l = AreAdded l.fn.facts (take l.i (pairs_of g.K.TreeKey.shape l.node)) l.facts
