use Rattle.std.proofs.Common.{ap, ◌∙◌}
use Rattle.apfs_model.specs.Counts.{given}
use Rattle.bit_lanes.specs.Bits.{ones_of}
use Rattle.own_ledger.specs.Held.{held_count}
use Rattle.own_ledger.proofs.MarkLemmas.{ones_are_held}
use Rattle.own_ledger.proofs.held.Ledger.held.Goals as goal

pub returns : goal.returns
returns c =
    let s = c.self.inside in
    c.count_ones.ensures.value ∙ ap (λ bits. given (ones_of bits)) c.deref.ensures.value
    ∙ ones_are_held s.first s.blocks s.bits.items c.self.invariant ∙ ap held_count c.self.view_is
