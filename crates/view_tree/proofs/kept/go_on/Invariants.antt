use Rattle.std.proofs.Common.{◌+◌, ◌-◌, ◌≤◌, []}
use Rattle.view_tree.specs.Kept.{told_rows}
use Rattle.view_tree.specs.Trails.{IsOn}
use Rattle.view_tree.proofs.kept.go_on.Given as goal

abbrev pub invariant-rows : goal.invariant-rows
invariant-rows l = record {
  on : IsOn (told_rows [] l.rows) l.trail;
  low : l.trail.passed ≤ l.place + 1;
}

abbrev pub decreases-rows : goal.decreases-rows
decreases-rows l = l.place + 1 - l.trail.passed
