use Rattle.std.proofs.Common.{◌≡◌, ◌+◌, length}
use Rattle.use_report.specs.Runs.{AreOwnSets}
use Rattle.use_report.proofs.HeadRuns.{AreFirst}
use Rattle.use_report.proofs.runs.view_sets.Given as goal

abbrev pub invariant-shared : goal.invariant-shared
invariant-shared l = record {
  long : length l.sets.items ≡ l.many + l.set-index;
  own : AreOwnSets l.many l.sets.items;
  first : AreFirst l.shared l.many l.set-index l.sets.items;
}
