use Rattle.img_make.specs.Images.{HasGrown}
use Rattle.img_make.proofs.making.put_volumes.Given as goal

abbrev pub invariant-loop-slot : goal.invariant-loop-slot
invariant-loop-slot l = HasGrown l.initial.image l.image
