use Rattle.std.proofs.Common.{◌≡◌, ℕ, List, length, Some}
use Rattle.apfs_model.specs.Kept.{IsKept}
use Rattle.use_report.specs.Runs.{AreOwnSets}
use Rattle.use_report.specs.Sharing.{AddsOwns}
use Rattle.use_report.proofs.sharing.add_owns.Given as goal

abbrev pub invariant-views : goal.invariant-views
invariant-views g l = record {
  added : (image : List ℕ) → g.S.BlockSource.bytes l.fn.src ≡ Some image → AreOwnSets (length l.views) l.fn.held.all.sets.items → AddsOwns image l.site l.views l.i l.fn.held.all l.held.all;
  own : (image : List ℕ) → g.S.BlockSource.bytes l.fn.src ≡ Some image → AreOwnSets (length l.views) l.fn.held.all.sets.items → AreOwnSets (length l.views) l.held.all.sets.items;
  kept : IsKept g.S.BlockSource.bytes g.S.BlockSource.bytes_len g.S.BlockSource.faults l.fn.src l.src;
}
