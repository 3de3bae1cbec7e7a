use Rattle.std.proofs.Common.{◌≡◌, ◌+◌, ◌<◌, ◌≤◌, ℕ, length, take, get_or}
use Rattle.view_sweep.specs.Runs.{has_place, IsBehind}
use Rattle.view_sweep.proofs.Rises.{nowhere}
use Rattle.use_report.proofs.HeadRuns.{so_far}
use Rattle.use_report.proofs.runs.add_runs.Given as goal

abbrev pub invariant-set : goal.invariant-set
invariant-set l = record {
  places : (view : ℕ) → view < l.many → has_place l.runs.items view ≡ so_far l.set l.many (take l.run-index l.set) view;
  behind : (j : ℕ) → l.run-index ≤ j → j < length l.set → IsBehind ((get_or l.set j nowhere).from + 1) l.runs.items;
}
