-- No block so far is kept.
use Rattle.std.proofs.Common.{◌≡◌, ◌≤◌, ◌<◌, ℕ, false}
use Rattle.blk_cache.specs.Keeping.{keeps}
use Rattle.blk_cache.proofs.part.first_kept.Given as goal

abbrev pub invariant-loop-block : goal.invariant-loop-block
invariant-loop-block l = record {
  above : l.first ≤ l.block;
  lacks : (k : ℕ) → l.first ≤ k → k < l.block → keeps l.store k ≡ false;
}
