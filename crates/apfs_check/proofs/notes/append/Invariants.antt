use Rattle.std.proofs.Common.{◌≡◌, ◌++◌}
use Rattle.apfs_check.proofs.notes.append.Given as goal

abbrev pub invariant-more : goal.invariant-more
invariant-more l = l.notes.items ≡ l.fn.notes.items ++ l.yielded
