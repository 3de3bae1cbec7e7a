use Rattle.std.proofs.Common.{◌≡◌, None, take}
use Rattle.std.specs.List.{find}
use Rattle.view_rules.specs.Extents.{is_uncovered}
use Rattle.rule_breaks.proofs.faults.extents.uncovered.Given as goal

abbrev pub invariant-loop-f : goal.invariant-loop-f
invariant-loop-f l = find (is_uncovered l.asked.site.now.block_size l.asked.ranges.now) (take l.f-index l.facts.extents) ≡ None
