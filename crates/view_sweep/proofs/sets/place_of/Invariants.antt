use Rattle.std.proofs.Common.{◌≡◌, ℕ, ◌-◌, ◌<◌, length}
use Rattle.view_sweep.specs.Sets.{view_of}
use Rattle.view_sweep.proofs.sets.place_of.Given as goal

abbrev pub invariant-loop-place : goal.invariant-loop-place
invariant-loop-place l = record {
  inside : l.place < length l.views;
  other : (q : ℕ) → q < l.place → view_of l.views q ≡ l.view → ⊥;
}

abbrev pub decreases-loop-place : goal.decreases-loop-place
decreases-loop-place l = length l.views - l.place
