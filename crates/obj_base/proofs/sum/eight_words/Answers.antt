use Rattle.std.proofs.Common.{◌+◌, ◌*◌, w8}
use Rattle.std.specs.Simd.Lanes.{chunk}
use Rattle.std.proofs.lemmas.Simd.{chunk-fits, below_from_Fits}
use Rattle.obj_base.proofs.Lanes.{eight_are}
use Rattle.obj_base.proofs.sum.eight_words.Goals as goal

pub returns-clause-words : goal.returns-clause-words
returns-clause-words c =
    let at = 8 + 4 * c.args.first in
    eight_are c.args.bytes.now c.args.first c.requires (below_from_Fits w8 (chunk at 32 c.args.bytes.now) (chunk-fits w8 at 32 c.args.bytes.now c.type_inv.bytes))
