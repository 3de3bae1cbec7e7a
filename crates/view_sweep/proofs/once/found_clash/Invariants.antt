use Rattle.std.proofs.Common.{ℕ, ◌<◌, ◌≤◌}
use Rattle.view_sweep.specs.Asked.{AreAlikeAt}
use Rattle.view_sweep.proofs.once.found_clash.Given as goal

abbrev pub invariant-loop-place : goal.invariant-loop-place
invariant-loop-place l = (j : ℕ) → l.from ≤ j → j < l.place → AreAlikeAt l.views l.sets l.asked j l.last
