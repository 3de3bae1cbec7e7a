use Rattle.std.proofs.Common.{◌≡◌, ◌≤◌, ◌<◌, ◌-◌, ℕ, true}
use Rattle.ext_ref.specs.Cover.{is_owned}
use Rattle.ext_ref.proofs.covering.covered.Given as goal

abbrev pub invariant-loop-block : goal.invariant-loop-block
invariant-loop-block l = record {
  from : l.first ≤ l.block;
  owned : (k : ℕ) → l.first ≤ k → k < l.block → is_owned l.ranges k ≡ true;
}

abbrev pub decreases-loop-block : goal.decreases-loop-block
decreases-loop-block l = l.end - l.block
