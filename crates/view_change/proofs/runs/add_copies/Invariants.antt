use Rattle.std.proofs.Common.{◌≡◌, ◌++◌, take}
use Rattle.view_change.proofs.runs.add_copies.Given as goal

abbrev pub invariant-loop-fact : goal.invariant-loop-fact
invariant-loop-fact g l = l.to.items ≡ l.fn.to.items ++ take l.fact-index l.facts
