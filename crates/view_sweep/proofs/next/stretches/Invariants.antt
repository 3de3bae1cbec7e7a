use Rattle.std.proofs.Common.{length, ◌≤◌}
use Rattle.view_sweep.specs.Next.{AreSoFar}
use Rattle.view_sweep.proofs.next.stretches.Given as goal

abbrev pub invariant-loop-place : goal.invariant-loop-place
invariant-loop-place l = record {
  far : AreSoFar l.views l.runs.items l.from l.place;
  inside : l.place ≤ length l.views;
}
