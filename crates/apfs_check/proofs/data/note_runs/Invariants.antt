use Rattle.std.proofs.Common.{◌≡◌, ◌++◌, map, take}
use Rattle.apfs_check.specs.Notes.{unreached_note}
use Rattle.apfs_check.proofs.data.note_runs.Given as goal

abbrev pub invariant-runs : goal.invariant-runs
invariant-runs l = l.out ≡ record l.fn.out { unreached = l.fn.out.unreached ++ map (unreached_note l.head) (take l.run-index l.runs) }
