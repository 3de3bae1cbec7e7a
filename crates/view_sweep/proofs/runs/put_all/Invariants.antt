use Rattle.std.proofs.Common.{◌≡◌, ℕ, ◌<◌, ◌≤◌, ◌||◌, length, take, get_or}
use Rattle.view_sweep.specs.Runs.{has_place, AreRising, IsBehind}
use Rattle.view_sweep.proofs.Rises.{nowhere}
use Rattle.view_sweep.proofs.runs.put_all.Given as goal

abbrev pub invariant-loop-run : goal.invariant-loop-run
invariant-loop-run l = record {
  rising : AreRising l.fn.runs.items → AreRising l.runs.items;
  places : (k : ℕ) → has_place l.runs.items k ≡ (has_place l.fn.runs.items k || has_place (take l.run-index l.more) k);
  behind : (j : ℕ) → l.run-index ≤ j → j < length l.more → IsBehind (get_or l.more j nowhere).from l.runs.items;
}
