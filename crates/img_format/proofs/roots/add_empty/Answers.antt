use Rattle.std.proofs.Common.{refl}
use Rattle.img_format.specs.Tables.{num}
use Rattle.img_format.proofs.roots.add_empty.Goals as goal

pub add_object-requires : goal.add_object-requires
unfolding num
add_object-requires c = refl
