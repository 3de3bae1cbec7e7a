use Rattle.std.proofs.Common.{◌≡◌, ◌∙◌, ◌++◌, ◌+◌, [], ℕ, List, length, sum, refl, ap, sym, subst, arith, length-append}
use Rattle.apfs_model.specs.Blocks.{block_of}
use Rattle.apfs_model.specs.Object.{sum_field}
use Rattle.apfs_model.specs.Sum.{sum_of, weighted, stored_sum}
use Rattle.blk_read.proofs.Sizes.{accepted_size}
use Rattle.nx_ring.specs.Objects.{mapped_part, mapped_bytes, data_block, object_blocks}
use Rattle.nx_ring.specs.Known.{is_summed}
use Rattle.nx_ring.specs.Sums.{words_after, IsSumOf}
use Rattle.nx_ring.proofs.More.{part_more}
use Rattle.nx_ring.proofs.Parts.{words_joined, even_blocks, header_fits, some_blocks, starts_inside}
use Rattle.nx_ring.proofs.Fitting.{block_fits}
use Rattle.nx_ring.proofs.Heads.{first_head}
use Rattle.nx_ring.proofs.Kept.{kept_on}
use Rattle.nx_ring.proofs.known.is_summed.Goals as goal

pub parts-init : goal.parts-init
parts-init g c = record {
  sum = λ image told e. subst (λ (bytes : List ℕ). IsSumOf c.add.new.self (words_after bytes 8)) e (c.add.ensures [] c.new-sum.ensures);
  long = λ image told e. Prim.omega (arith, ap length e, c.requires.whole);
  kept = record { same_bytes = refl; same_size = refl; later = Prim.omega arith };
  reads = Prim.omega arith;
}

pub parts-preserved : goal.parts-preserved
parts-preserved g c =
    let areas = c.args.areas.now in
    let m = c.args.m.now in
    let t = c.parts.t in
    let old = c.parts.invariant in
    let kept = c.in_ok-block.ensures.kept in
    record {
      sum = λ image told e.
          let held : c.deref.result.now ≡ block_of areas.size image (data_block areas m.paddr t) = c.deref.ensures.value ∙ (c.in_ok-block.ensures.found image (old.kept.same_bytes ∙ told) ∙ ap (block_of areas.size image) c.data_block.ensures.here) in
          let long = old.long image told e in
          let even = even_blocks areas.size t c.requires.fits.accepted c.parts.auto.t in
          let whole = sym (words_joined (mapped_part image areas m t) c.deref.result.now (Prim.omega (arith, long, even.0)) (Prim.omega (arith, long, even.1))) in
          subst (λ (ws : List ℕ). IsSumOf c.add-in-parts.new.self ws)
          (whole ∙ ap (λ xs. words_after xs 8) (ap (λ b. mapped_part image areas m t ++ b) held ∙ sym (part_more image areas m t)))
          (c.add-in-parts.ensures (words_after (mapped_part image areas m t) 8) (old.sum image told e));
      long = λ image told e.
          let same = c.in_ok-block.ensures.found image (old.kept.same_bytes ∙ told) ∙ ap (block_of areas.size image) c.data_block.ensures.here in
          let block : length (block_of areas.size image (data_block areas m.paddr t)) ≡ areas.size = sym (ap length same) ∙ c.in_ok-block.ensures.long in
          Prim.omega (arith, ap length (part_more image areas m t), length-append (mapped_part image areas m t) (block_of areas.size image (data_block areas m.paddr t)), block, old.long image told e);
      kept = kept_on old.kept kept;
      reads = Prim.omega (arith, c.in_ok-block.ensures.reads, old.reads);
    }

pub returns-clause-found : goal.returns-clause-found
unfolding is_summed sum_of sum_field
returns-clause-found g c image told e =
    let areas = c.args.areas.now in
    let m = c.args.m.now in
    let some = some_blocks areas m c.requires.placed in
    let all : c.parts.t ≡ object_blocks areas m = Prim.omega (arith, some, c.parts.auto.t-end, c.parts-test.false) in
    let words = words_after (mapped_bytes image areas m) 8 in
    let summed : IsSumOf c.parts.sum words = subst (λ (n : ℕ). IsSumOf c.parts.sum (words_after (mapped_part image areas m n) 8)) all (c.parts.invariant.sum image told e) in
    let stored : c.stored.result ≡ stored_sum (sum words) (weighted words) = c.stored.ensures words summed in
    let head = first_head image areas m c.args.first.now c.requires.placed (Prim.omega (arith, header_fits areas.size c.requires.fits.accepted, c.requires.whole)) e in
    let field : c.u64_at.result ≡ sum_field (mapped_bytes image areas m) = c.u64_at.ensures ∙ sym head.2 in
    Prim.cc

pub returns-clause-reads : goal.returns-clause-reads
returns-clause-reads g c = Prim.omega (arith, some_blocks c.args.areas.now c.args.m.now c.requires.placed, c.parts.auto.t-end, c.parts-test.false, c.parts.invariant.reads)

pub data_block-requires : goal.data_block-requires
data_block-requires g c = let in_area = starts_inside c.args.areas.now c.args.m.now c.requires.placed in record { starts = in_area.0; inside = in_area.1; small = c.requires.fits.small_data }

pub read_new-requires : goal.read_new-requires
read_new-requires g c =
    let areas = c.args.areas.now in
    let size = accepted_size areas.size c.requires.fits.accepted in
    record { some = Prim.omega (arith, size.0); short = size.1; inside = block_fits areas.size c.data_block.result (areas.data_base + areas.data_blocks) _ c.data_block.ensures.high (Prim.omega (arith, c.requires.fits.«data», c.parts.invariant.kept.same_size)) }
