use Rattle.std.proofs.Common.{◌≡◌, None, take}
use Rattle.std.specs.List.{find}
use Rattle.view_rules.specs.Extents.{is_misplaced}
use Rattle.rule_breaks.proofs.faults.extents.place.Given as goal

abbrev pub invariant-loop-f : goal.invariant-loop-f
invariant-loop-f l = find (is_misplaced l.asked.site.now.block_size l.asked.site.now.blocks) (take l.f-index l.facts.extents) ≡ None
