use Rattle.img_make.specs.Images.{HasGrown}
use Rattle.img_make.proofs.laying.space.put_bitmaps.Given as goal

abbrev pub invariant-loop-chunk : goal.invariant-loop-chunk
invariant-loop-chunk l = HasGrown l.initial.image l.image
