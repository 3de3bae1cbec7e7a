use Rattle.img_make.specs.Images.{HasGrown}
use Rattle.img_make.proofs.laying.volumes.six.Given as goal

abbrev pub invariant-loop-i : goal.invariant-loop-i
invariant-loop-i l = HasGrown l.initial.image l.image
