use Rattle.std.proofs.Common.{ℕ, ◌≤◌, Bool, take}
use Rattle.std.specs.Prelude.{count_by}
use Rattle.fs_record.specs.Entries.{Entry}
use Rattle.fs_record.specs.Facts.{Fact}
use Rattle.rule_index.specs.Ids.{count_in}
use Rattle.rule_breaks.specs.Suspects.{HaveDigest, NoneAlone}
use Rattle.rule_breaks.proofs.suspects.suspects.Given as goal

abbrev pub invariant-loop-i : goal.invariant-loop-i
invariant-loop-i l = (test : Fact Entry → Bool) (q : ℕ) → HaveDigest test q → NoneAlone l.entries l.i test → count_by test (take l.i l.entries) ≤ count_in l.digests.items q
