use Rattle.img_make.specs.Images.{HasGrown}
use Rattle.img_make.proofs.laying.image.Image.mark.Given as goal

abbrev pub invariant-loop-at : goal.invariant-loop-at
invariant-loop-at l = HasGrown l.initial.self l.self
