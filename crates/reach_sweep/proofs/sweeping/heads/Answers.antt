use Rattle.std.proofs.Common.{◌∙◌, ap, sym}
use Rattle.std.proofs.lemmas.List.{take_all}
use Rattle.reach_sweep.specs.Views.{swept_heads}
use Rattle.reach_sweep.proofs.Heads.{heads-next}
use Rattle.reach_sweep.proofs.sweeping.heads.Goals as goal

pub loop-i-preserved : goal.loop-i-preserved
loop-i-preserved c =
    c.in-Ok.ensures.added
    ∙ heads-next c.args.cp.now c.args.volumes.now c.loop-i.i c.index-volumes-i.result c.loop-i.heads.items c.loop-i-test.true (sym c.index-volumes-i.is) c.loop-i.invariant

pub returns-clause-all : goal.returns-clause-all
returns-clause-all c = c.loop-i.invariant ∙ ap (swept_heads c.args.cp.now) (take_all c.loop-i.i c.args.volumes.now c.loop-i-test.false)
