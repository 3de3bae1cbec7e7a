use Rattle.std.proofs.Common.{◌≡◌, map, take}
use Rattle.ext_ref.specs.Left.{run_of}
use Rattle.ext_ref.proofs.reaching.runs.Given as goal

abbrev pub invariant-loop-span : goal.invariant-loop-span
invariant-loop-span l = l.runs.items ≡ map run_of (take l.span-index l.spans)
