use Rattle.std.proofs.Common.{◌≡◌, map, take}
use Rattle.apfs_check.specs.Notes.{skipped_note}
use Rattle.apfs_check.proofs.notes.skipped.Given as goal

abbrev pub invariant-candidates : goal.invariant-candidates
invariant-candidates l = l.notes.items ≡ map skipped_note (take l.candidate-index l.candidates)
