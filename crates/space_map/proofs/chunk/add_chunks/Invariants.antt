use Rattle.std.proofs.Common.{◌≡◌, ◌+◌, ◌*◌, ℕ, List, length}
use Rattle.apfs_model.specs.Blocks.{block_of}
use Rattle.space_map.specs.Fields.{cib_chunks_of}
use Rattle.space_map.specs.Blocks.{cib_block}
use Rattle.space_map.specs.Held.{first_chunks, AreRight}
use Rattle.space_map.proofs.chunk.add_chunks.Given as goal

abbrev pub invariant-entries : goal.invariant-entries
invariant-entries l = record {
  count : length l.chunks.items ≡ cib_chunks_of l.manager * l.index + l.j;
  right : AreRight l.site l.manager l.chunks.items;
  found : (image : List ℕ) → l.cib ≡ block_of l.site.block_size image (cib_block l.site.block_size image l.manager l.index) → l.fn.chunks.items ≡ first_chunks image l.site l.manager (length l.fn.chunks.items) → l.chunks.items ≡ first_chunks image l.site l.manager (length l.chunks.items);
}
