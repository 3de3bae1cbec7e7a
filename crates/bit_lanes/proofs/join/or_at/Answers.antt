use Rattle.std.proofs.Common.{arith}
use Rattle.std.specs.Prelude.{bit_or}
use Rattle.std.specs.Simd.Lanes.{chunk, zip2}
use Rattle.std.proofs.lemmas.Simd.{get_or-put_chunk_below, get_or-put_chunk_above}
use Rattle.bit_lanes.proofs.LaneLemmas.{joined_lanes, length-joined}
use Rattle.bit_lanes.proofs.join.or_at.Goals as goal

pub returns-clause-joined : goal.returns-clause-joined
returns-clause-joined c = joined_lanes c.args.into.now c.args.from.now c.args.at c.requires.into c.requires.from

pub returns-clause-before : goal.returns-clause-before
returns-clause-before c = λ i below.
    get_or-put_chunk_below c.args.at c.args.into.now (zip2 bit_or (chunk c.args.at 64 c.args.into.now) (chunk c.args.at 64 c.args.from.now)) i 0 below

pub returns-clause-after : goal.returns-clause-after
returns-clause-after c = λ i above.
    let long = length-joined c.args.into.now c.args.from.now c.args.at c.requires.into c.requires.from in
    get_or-put_chunk_above c.args.at c.args.into.now (zip2 bit_or (chunk c.args.at 64 c.args.into.now) (chunk c.args.at 64 c.args.from.now)) i 0 (omega arith)
