use Rattle.std.proofs.Common.{◌≡◌, length}
use Rattle.use_report.specs.Runs.{AreOwnSets}
use Rattle.use_report.proofs.runs.own_sets.Given as goal

abbrev pub invariant-views : goal.invariant-views
invariant-views l = record {
  many : length l.sets.items ≡ l.view;
  own : AreOwnSets l.view l.sets.items;
}
