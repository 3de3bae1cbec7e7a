use Rattle.std.proofs.Common.{◌≡◌, ◌+◌, ◌*◌, min, subst, arith}
use Rattle.bit_lanes.specs.Places.{AreClear}
use Rattle.bit_lanes.proofs.RunLemmas.{part_least, part_clear}
use Rattle.bit_lanes.proofs.ranges.least_in_bytes.Goals as goal

pub returns-in-Some : goal.returns-in-Some
returns-in-Some c =
    let at = c.args.from + 64 * c.parts.part in
    let here : min c.args.to at ≡ at = omega arith in
    part_least c.args.bits.now c.args.from c.args.to at c.min.result c.in-Some.place (omega arith) (omega arith) (omega arith) (omega arith)
    (subst (λ n. AreClear c.args.bits.now (8 * c.args.from) (8 * n)) here c.parts.invariant) c.in-Some.ensures

pub parts-preserved : goal.parts-preserved
parts-preserved c =
    let at = c.args.from + 64 * c.parts.part in
    let here : min c.args.to at ≡ at = omega arith in
    let next : c.min.result ≡ min c.args.to (c.args.from + 64 * (c.parts.part + 1)) = omega arith in
    subst (λ n. AreClear c.args.bits.now (8 * c.args.from) (8 * n)) next
    (part_clear c.args.bits.now c.args.from at c.min.result (omega arith) (omega arith) (subst (λ n. AreClear c.args.bits.now (8 * c.args.from) (8 * n)) here c.parts.invariant) c.in_default.ensures)
