use Rattle.img_make.specs.Images.{HasGrown}
use Rattle.img_make.proofs.making.mark_named.Given as goal

abbrev pub invariant-loop-entry : goal.invariant-loop-entry
invariant-loop-entry l = HasGrown l.initial.image l.image

abbrev pub invariant-loop-first : goal.invariant-loop-first
invariant-loop-first l = HasGrown l.initial.image l.image
