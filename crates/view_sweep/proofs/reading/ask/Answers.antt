use Rattle.std.proofs.Common.{List, ◌++◌, map, ap, ◌∙◌}
use Rattle.std.proofs.lemmas.List.{take_all}
use Rattle.view_sweep.specs.declared.wanted.Wanted.{Wanted}
use Rattle.view_sweep.specs.Sets.{asked_with}
use Rattle.view_sweep.proofs.Buffers.{pushed-more}
use Rattle.view_sweep.proofs.reading.ask.Goals as goal

pub loop-wanted-preserved : goal.loop-wanted-preserved
loop-wanted-preserved c = pushed-more (asked_with c.args.set) c.args.wants.now c.loop-wanted.wanted-index _ c.args.out.now.items c.loop-wanted.out.items c.push.new.self.items c.loop-wanted-test.true c.loop-wanted.invariant c.in_ok-push.ensures.items

pub returns : goal.returns
returns c = c.loop-wanted.invariant ∙ ap (λ (ws : List Wanted). c.args.out.now.items ++ map (asked_with c.args.set) ws) (take_all c.loop-wanted.wanted-index c.args.wants.now c.loop-wanted-test.false)
