use Rattle.std.proofs.Common.{◌≡◌, ◌∙◌, ◌+◌, ◌*◌, ◌≤◌, ℕ, arith, ap, length}
use Rattle.space_map.specs.Fields.{pool_bitmap_blocks_of}
use Rattle.space_pool.proofs.Indexes.{joined-more, joined-all, kept-then}
use Rattle.space_pool.proofs.bits.read_bits.Goals as goal

pub loop-i-preserved : goal.loop-i-preserved
loop-i-preserved g c =
    let bytes = g.S.BlockSource.bytes in
    let old = c.loop-i.bits.items in
    let new = c.read_on.new.bits.items in
    let size = c.args.site.now.block_size in
    let was : length old ≡ c.loop-i.i * size = c.loop-i.invariant.long in
    let one : length new ≡ length old + size = c.in_ok-read_on.ensures.long in
    let few : g.S.BlockSource.reads c.loop-i.src ≤ g.S.BlockSource.reads c.args.src.now + c.loop-i.i = c.loop-i.invariant.reads in
    let more : g.S.BlockSource.reads c.read_on.new.src ≤ g.S.BlockSource.reads c.loop-i.src + 1 = c.read_on.ensures.reads in
    record {
      joined = λ image told. joined-more size image c.args.manager.now c.args.ring_base c.loop-i.i (c.args.ring_base + c.from.result) old new (c.loop-i.invariant.joined image told)
          (c.in_ok-read_on.ensures.found image (c.loop-i.invariant.kept.same_bytes ∙ told)) (ap (λ (n : ℕ). c.args.ring_base + n) (c.from.ensures ∙ c.index.ensures));
      long = omega (arith, was, one);
      kept = kept-then bytes g.S.BlockSource.bytes_len g.S.BlockSource.faults c.args.src.now c.loop-i.src c.read_on.new.src c.loop-i.invariant.kept c.read_on.ensures.kept;
      reads = omega (arith, few, more);
    }

pub returns-clause-found : goal.returns-clause-found
returns-clause-found g c image told =
    let all : c.loop-i.i ≡ pool_bitmap_blocks_of c.args.manager.now = omega arith in
    joined-all c.args.site.now.block_size image c.args.manager.now c.args.ring_base c.loop-i.i c.loop-i.bits.items all c.requires.ring (c.loop-i.invariant.joined image told)
