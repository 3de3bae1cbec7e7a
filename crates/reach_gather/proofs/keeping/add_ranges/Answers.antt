use Rattle.std.proofs.Common.{ℕ, List, ◌++◌, ap, ◌∙◌}
use Rattle.std.proofs.lemmas.List.{take_all}
use Rattle.reach_gather.specs.Kept.{some_ranges}
use Rattle.reach_gather.proofs.Kepts.{ranges-more}
use Rattle.reach_gather.proofs.keeping.add_ranges.Goals as goal

pub loop-range-preserved : goal.loop-range-preserved
loop-range-preserved c = ranges-more c.args.ranges.now c.loop-range.range-index (0, 0) c.args.out.now.items c.loop-range.out.items c.add_range.new.out.items c.loop-range-test.true c.loop-range.invariant c.in_ok-add_range.ensures

pub returns : goal.returns
returns c = c.loop-range.invariant ∙ ap (λ (rs : List (ℕ × ℕ)). c.args.out.now.items ++ some_ranges rs) (take_all c.loop-range.range-index c.args.ranges.now c.loop-range-test.false)
