use Rattle.std.proofs.Common.{◌∙◌, ap, replicate, arith}
use Rattle.std.proofs.lemmas.List.Edits.{length-between}
use Rattle.bit_lanes.proofs.RunLemmas.{part_set}
use Rattle.bit_lanes.proofs.ranges.set_bytes.Goals as goal

pub returns : goal.returns
returns c =
    part_set c.args.bits.now c.args.from c.args.to c.requires.order c.requires.inside c.fill.new.self
    (c.fill.ensures.after (λ y same. same) ∙ ap (λ n. replicate n 255) (length-between c.args.bits.now c.args.from c.args.to (omega arith)))
