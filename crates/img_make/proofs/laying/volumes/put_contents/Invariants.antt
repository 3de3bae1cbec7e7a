use Rattle.img_make.specs.Images.{HasGrown}
use Rattle.img_make.proofs.laying.volumes.put_contents.Given as goal

abbrev pub invariant-loop-block : goal.invariant-loop-block
invariant-loop-block l = HasGrown l.initial.image l.image
