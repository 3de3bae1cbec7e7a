use Rattle.img_make.specs.Images.{HasGrown}
use Rattle.img_make.proofs.making.mark_ranges.Given as goal

abbrev pub invariant-loop-volume : goal.invariant-loop-volume
invariant-loop-volume l = HasGrown l.initial.image l.image

abbrev pub invariant-loop-range : goal.invariant-loop-range
invariant-loop-range l = HasGrown l.initial.image l.image
