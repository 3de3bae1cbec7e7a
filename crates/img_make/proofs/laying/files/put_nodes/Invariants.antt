use Rattle.img_make.specs.Images.{HasGrown}
use Rattle.img_make.proofs.laying.files.put_nodes.Given as goal

abbrev pub invariant-loop-node : goal.invariant-loop-node
invariant-loop-node l = HasGrown l.initial.image l.image
