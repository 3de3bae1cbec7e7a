use Rattle.img_make.specs.Images.{HasGrown}
use Rattle.img_make.proofs.laying.physical.blocks.Given as goal

abbrev pub invariant-loop : goal.invariant-loop
invariant-loop l = HasGrown l.initial.image l.image
