use Rattle.std.proofs.Common.{◌≡◌, ◌++◌, map, take}
use Rattle.apfs_check.specs.DataSteps.{wrong_note}
use Rattle.apfs_check.proofs.data.note_counts.Given as goal

abbrev pub invariant-wrong : goal.invariant-wrong
invariant-wrong l = l.out ≡ record l.fn.out { counts = l.fn.out.counts ++ map (wrong_note l.slot) (take l.item-index l.wrong) }
