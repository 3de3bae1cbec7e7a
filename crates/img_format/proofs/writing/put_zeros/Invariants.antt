use Rattle.std.proofs.Common.{◌≤◌}
use Rattle.apfs_model.specs.Sink.{Wrote}
use Rattle.img_format.specs.Steps.{zero_blocks}
use Rattle.img_format.proofs.writing.put_zeros.Given as goal

abbrev pub invariant-each : goal.invariant-each
invariant-each g l = record {
  put : Wrote (g.W.Sink.contents l.fn.out) (g.W.Sink.contents l.out) (zero_blocks l.counter);
  later : g.W.Sink.faults l.fn.out ≤ g.W.Sink.faults l.out;
}
