use Rattle.std.proofs.Common.{ℕ, ◌+◌, ◌<◌, ◌≤◌, get_or}
use Rattle.fs_record.specs.Entries.{Entry}
use Rattle.fs_record.specs.Facts.{Fact}
use Rattle.rule_breaks.specs.Suspects.{entry_rank}
use Rattle.rule_breaks.proofs.suspects.are_ranked.Given as goal

abbrev pub invariant-loop-i : goal.invariant-loop-i
invariant-loop-i l = (1 ≤ l.i) × ((k : ℕ) (d : Fact Entry) → k + 1 < l.i → entry_rank (get_or l.entries k d) ≤ entry_rank (get_or l.entries (k + 1) d))
