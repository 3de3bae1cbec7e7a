use Rattle.std.proofs.Common.{ℕ, List, ◌++◌, ap, ◌∙◌}
use Rattle.std.proofs.lemmas.List.{take_all}
use Rattle.reach_rules.specs.Owners.{told_from}
use Rattle.reach_gather.specs.Held.{some_owners}
use Rattle.reach_gather.proofs.Telling.{tell-more}
use Rattle.reach_gather.proofs.keeping.add_told.Goals as goal

pub loop-i-preserved : goal.loop-i-preserved
loop-i-preserved c = tell-more c.args.naming c.args.ranges.now c.loop-i.i (0, 0) c.args.out.now.items c.loop-i.out.items c.add_owner.new.out.items c.loop-i-test.true c.loop-i.invariant c.in_ok-add_owner.ensures

pub returns : goal.returns
returns c = c.loop-i.invariant ∙ ap (λ (rs : List (ℕ × ℕ)). c.args.out.now.items ++ some_owners (told_from c.args.naming 0 rs)) (take_all c.loop-i.i c.args.ranges.now c.loop-i-test.false)
