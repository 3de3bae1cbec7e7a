use Rattle.std.proofs.Common.{◌≡◌, None, take}
use Rattle.std.specs.List.{find}
use Rattle.rule_breaks.specs.ByEntry.{is_broken}
use Rattle.rule_breaks.proofs.faults.entries.EntryRule.first.Given as goal

abbrev pub invariant-loop-e : goal.invariant-loop-e
invariant-loop-e l = find (is_broken l.index.facts.now l.self) (take l.e-index l.index.facts.now.entries) ≡ None
