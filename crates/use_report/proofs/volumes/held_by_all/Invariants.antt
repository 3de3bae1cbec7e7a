use Rattle.std.proofs.Common.{◌≡◌, ℕ, List, length, Some}
use Rattle.apfs_model.specs.Kept.{IsKept}
use Rattle.use_report.specs.Runs.{AreOwnSets}
use Rattle.use_report.specs.Sets.{AreHoldings}
use Rattle.use_report.proofs.volumes.held_by_all.Given as goal

abbrev pub invariant-views : goal.invariant-views
invariant-views g l = record {
  held : (image : List ℕ) → g.S.BlockSource.bytes l.fn.src ≡ Some image → AreHoldings image l.site l.volume l.views l.i l.held.all;
  own : (image : List ℕ) → g.S.BlockSource.bytes l.fn.src ≡ Some image → AreOwnSets (length l.views) l.held.all.sets.items;
  kept : IsKept g.S.BlockSource.bytes g.S.BlockSource.bytes_len g.S.BlockSource.faults l.fn.src l.src;
}
