use Rattle.std.proofs.Common.{◌∙◌}
use Rattle.nx_ring.specs.Zero.{IsNonContiguous}
use Rattle.nx_ring.specs.Candidates.{all_candidates}
use Rattle.nx_ring.specs.Ring.{IsRingFault}
use Rattle.nx_ring.proofs.Present.{value_told}
use Rattle.nx_ring.proofs.candidates.ring.Goals as goal

pub returns-clause-present : goal.returns-clause-present
returns-clause-present g c image told =
    value_told (IsRingFault image) (IsNonContiguous image) (λ lines. lines.items) (all_candidates image c.in_ok-areas.areas) c.lines.result
    (c.lines.ensures.found image (c.in_ok-areas.ensures.kept.same_bytes ∙ told))
