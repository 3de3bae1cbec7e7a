use Rattle.std.proofs.Common.{◌≡◌, ◌≤◌, ◌<◌, ◌+◌, ◌*◌, ℕ, List, Some, length, min}
use Rattle.apfs_model.specs.Kept.{IsKept}
use Rattle.space_map.specs.Fields.{chunks_of, cib_chunks_of}
use Rattle.space_map.specs.Stops.{IsRightCib}
use Rattle.space_map.specs.Held.{first_chunks, AreRight}
use Rattle.space_map.proofs.info.chunks.Given as goal

abbrev pub invariant-cibs : goal.invariant-cibs
invariant-cibs g l = record {
  count : length l.chunks.items ≡ min (chunks_of l.manager) (cib_chunks_of l.manager * l.index);
  right : AreRight l.site l.manager l.chunks.items;
  found : (image : List ℕ) → g.S.BlockSource.bytes l.fn.src ≡ Some image → l.chunks.items ≡ first_chunks image l.site l.manager (length l.chunks.items);
  clear : (image : List ℕ) → g.S.BlockSource.bytes l.fn.src ≡ Some image → (i : ℕ) → i < l.index → IsRightCib image l.site l.manager i;
  kept : IsKept g.S.BlockSource.bytes g.S.BlockSource.bytes_len g.S.BlockSource.faults l.fn.src l.src;
  reads : g.S.BlockSource.reads l.src ≤ g.S.BlockSource.reads l.fn.src + l.index;
}
