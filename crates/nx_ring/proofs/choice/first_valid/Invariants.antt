use Rattle.std.proofs.Common.{◌≡◌, ◌≤◌, ◌+◌, ◌*◌, ℕ, List, Some, None, take}
use Rattle.std.specs.List.{find}
use Rattle.apfs_model.specs.Kept.{IsKept}
use Rattle.nx_ring.specs.Valid.{is_valid}
use Rattle.nx_ring.specs.Known.{AreKnown}
use Rattle.nx_ring.specs.Reading.{AreCandidates}
use Rattle.nx_ring.proofs.choice.first_valid.Given as goal

abbrev pub invariant-each : goal.invariant-each
invariant-each g l = record {
  none : (image : List ℕ) → g.S.BlockSource.bytes l.fn.src ≡ Some image → AreCandidates image l.areas l.lines → find (is_valid image l.areas) (take l.line-index l.lines) ≡ None;
  known : (image : List ℕ) → g.S.BlockSource.bytes l.fn.src ≡ Some image → AreKnown image l.areas l.known;
  kept : IsKept g.S.BlockSource.bytes g.S.BlockSource.bytes_len g.S.BlockSource.faults l.fn.src l.src;
  reads : (image : List ℕ) → g.S.BlockSource.bytes l.fn.src ≡ Some image → AreCandidates image l.areas l.lines → g.S.BlockSource.reads l.src ≤ g.S.BlockSource.reads l.fn.src + l.line-index * (l.areas.desc_blocks + l.areas.data_blocks);
}
