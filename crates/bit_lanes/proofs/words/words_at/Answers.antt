use Rattle.std.proofs.Common.{w8}
use Rattle.std.specs.Simd.Lanes.{chunk}
use Rattle.std.proofs.lemmas.Simd.{chunk-fits, below_from_Fits}
use Rattle.bit_lanes.proofs.WordLemmas.{eight_are}
use Rattle.bit_lanes.proofs.words.words_at.Goals as goal

pub returns : goal.returns
returns c =
    eight_are c.args.bytes.now c.args.at c.requires (below_from_Fits w8 (chunk c.args.at 64 c.args.bytes.now) (chunk-fits w8 c.args.at 64 c.args.bytes.now c.type_inv.bytes))
