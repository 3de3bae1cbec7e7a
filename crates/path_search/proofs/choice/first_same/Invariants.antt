use Rattle.std.proofs.Common.{◌≡◌, ◌<◌, ℕ, false, get_or}
use Rattle.fs_record.specs.Entries.{Entry}
use Rattle.fs_record.specs.Facts.{Fact}
use Rattle.path_search.specs.Found.{has_name}
use Rattle.path_search.proofs.choice.first_same.Given as goal

abbrev pub invariant-loop-number : goal.invariant-loop-number
invariant-loop-number l = (k : ℕ) (d : Fact Entry) → k < l.number → has_name l.name (get_or l.entries k d).what ≡ false
