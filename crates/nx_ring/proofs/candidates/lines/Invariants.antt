use Rattle.std.proofs.Common.{◌≡◌, ◌≤◌, ◌<◌, ◌+◌, List, ℕ, Some}
use Rattle.apfs_model.specs.Kept.{IsKept}
use Rattle.nx_ring.specs.Candidates.{candidates}
use Rattle.std.specs.List.{All}
use Rattle.nx_ring.specs.declared.line.RingLine.{RingLine}
use Rattle.nx_ring.proofs.candidates.lines.Given as goal

abbrev pub invariant-indices : goal.invariant-indices
invariant-indices g l = record {
  found : (image : List ℕ) → g.S.BlockSource.bytes l.fn.src ≡ Some image → l.lines.items ≡ candidates image l.areas l.index;
  inside : All (λ (line : RingLine). line.index < l.areas.desc_blocks) l.lines.items;
  kept : IsKept g.S.BlockSource.bytes g.S.BlockSource.bytes_len g.S.BlockSource.faults l.fn.src l.src;
  reads : g.S.BlockSource.reads l.src ≤ g.S.BlockSource.reads l.fn.src + l.index;
}
