use Rattle.std.proofs.Common.{◌≡◌, ◌++◌, ◌==◌, take}
use Rattle.std.specs.List.{filter}
use Rattle.view_sweep.specs.declared.wanted.Asked.{Asked}
use Rattle.view_sweep.specs.Swept.{level_of}
use Rattle.view_sweep.proofs.sweeping.add_level.Given as goal

abbrev pub invariant-loop-kid : goal.invariant-loop-kid
invariant-loop-kid l = l.out.items ≡ l.fn.out.items ++ filter (λ (a : Asked). level_of a.wanted == l.level) (take l.kid-index l.kids)
