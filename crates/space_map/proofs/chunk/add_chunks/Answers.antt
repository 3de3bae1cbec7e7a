use Rattle.std.proofs.Common.{◌≡◌, ◌∙◌, ◌<◌, ◌*◌, true, length, ap, sym, subst, arith}
use Rattle.space_map.specs.Fields.{chunks_of, cib_chunks_of}
use Rattle.space_map.specs.Chunks.{chunk_at, is_told}
use Rattle.space_map.specs.Tests.{share}
use Rattle.space_map.proofs.Telling.{entry_fits, chunk_start, chunk-here, told-here, chunks_more, one_longer}
use Rattle.space_map.proofs.chunk.add_chunks.Goals as goal

pub chunk_from-chunk-requires : goal.chunk_from-chunk-requires
chunk_from-chunk-requires c =
    let count : c.share-count.result ≡ share (chunks_of c.args.manager.now) (cib_chunks_of c.args.manager.now) c.args.index = cc in
    let low : c.entries.j < share (chunks_of c.args.manager.now) (cib_chunks_of c.args.manager.now) c.args.index = omega arith in
    let fits = entry_fits c.args.site.now c.args.manager.now c.args.index c.entries.j c.requires.accepted c.requires.shaped low in
    omega (arith, fits, c.requires.long)

pub add_chunk-requires : goal.add_chunk-requires
add_chunk-requires c =
    let count : c.share-count.result ≡ share (chunks_of c.args.manager.now) (cib_chunks_of c.args.manager.now) c.args.index = cc in
    let low : length c.entries.chunks.items < chunks_of c.args.manager.now = omega (arith, c.entries.invariant.count, c.entries-test.true, count) in
    chunk_start c.args.site.now c.args.manager.now (length c.entries.chunks.items) c.requires.accepted c.requires.shaped low

pub returns-in-Err-clause-present : goal.returns-in-Err-clause-present
returns-in-Err-clause-present c image cib telling =
    let site = c.args.site.now in
    let manager = c.args.manager.now in
    let count : c.share-count.result ≡ share (chunks_of manager) (cib_chunks_of manager) c.args.index = cc in
    let low : c.entries.j < share (chunks_of manager) (cib_chunks_of manager) c.args.index = omega (arith, c.entries-test.true, count) in
    let few : c.entries.j < cib_chunks_of manager = omega (arith, low) in
    let told = told-here image site manager c.args.index c.entries.j c.requires.shaped low telling in
    let here = chunk-here image site manager c.args.cib.now c.args.index c.entries.j few cib in
    c.in-Err.ensures.present image (subst (λ k. is_told image site manager k ≡ true) (sym c.entries.invariant.count) told)
    (c.chunk_from-chunk.ensures ∙ (here ∙ ap (chunk_at site.block_size image manager) (sym c.entries.invariant.count)))

pub entries-preserved : goal.entries-preserved
entries-preserved c =
    let site = c.args.site.now in
    let manager = c.args.manager.now in
    let count : c.share-count.result ≡ share (chunks_of manager) (cib_chunks_of manager) c.args.index = cc in
    let low : c.entries.j < share (chunks_of manager) (cib_chunks_of manager) c.args.index = omega (arith, c.entries-test.true, count) in
    let few : c.entries.j < cib_chunks_of manager = omega (arith, low) in
    record {
      count = one_longer c.entries.chunks.items c.add_chunk.new.chunks.items c.chunk_from-chunk.result (cib_chunks_of manager * c.args.index) c.entries.j c.in-Ok.ensures.added c.entries.invariant.count;
      right = c.in-Ok.ensures.right c.entries.invariant.right;
      found = λ image cib before.
          chunks_more image site manager c.entries.chunks.items c.add_chunk.new.chunks.items c.chunk_from-chunk.result (c.entries.invariant.found image cib before)
          (c.chunk_from-chunk.ensures ∙ (chunk-here image site manager c.args.cib.now c.args.index c.entries.j few cib ∙ ap (chunk_at site.block_size image manager) (sym c.entries.invariant.count)))
          c.in-Ok.ensures.added;
    }
