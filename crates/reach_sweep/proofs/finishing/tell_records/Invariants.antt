use Rattle.std.proofs.Common.{take}
use Rattle.reach_sweep.specs.Composed.{records_used, HasRecords}
use Rattle.reach_sweep.proofs.finishing.tell_records.Given as goal

abbrev pub invariant-loop-one : goal.invariant-loop-one
invariant-loop-one l = HasRecords (records_used (take l.one-index l.used)) l.fn.out l.out
