use Rattle.img_make.specs.Images.{HasGrown}
use Rattle.img_make.proofs.laying.space.put_cibs.Given as goal

abbrev pub invariant-loop-index : goal.invariant-loop-index
invariant-loop-index l = HasGrown l.initial.image l.image
