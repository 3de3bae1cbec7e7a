use Rattle.img_make.specs.Images.{HasGrown}
use Rattle.img_make.proofs.laying.snapshots.put_snapshots.Given as goal

abbrev pub invariant-loop-version : goal.invariant-loop-version
invariant-loop-version l = HasGrown l.initial.image l.image
