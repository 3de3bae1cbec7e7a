use Rattle.std.proofs.Common.{sym, ◌∙◌}
use Rattle.apfs_model.proofs.BoolTests.{not-true}
use Rattle.plain_change.proofs.extents.is_extent_right.Goals as goal

pub returns : goal.returns
returns c holds = record { place = sym c.is_misplaced.ensures ∙ c.if-is_misplaced.false; cover = sym c.is_uncovered.ensures ∙ not-true c.is_uncovered.result holds }
