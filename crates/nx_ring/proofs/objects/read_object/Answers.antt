use Rattle.std.proofs.Common.{◌≡◌, ◌∙◌, ◌+◌, ◌*◌, ap, arith, length-append}
use Rattle.apfs_model.specs.Blocks.{block_of}
use Rattle.blk_read.proofs.Sizes.{accepted_size}
use Rattle.nx_ring.specs.Objects.{mapped_part, data_block, object_blocks}
use Rattle.nx_ring.proofs.Fitting.{block_fits}
use Rattle.nx_ring.proofs.More.{part_more}
use Rattle.nx_ring.proofs.Parts.{starts_inside, whole_blocks}
use Rattle.nx_ring.proofs.Kept.{kept_on}
use Rattle.nx_ring.proofs.objects.read_object.Goals as goal

pub data_block-requires : goal.data_block-requires
data_block-requires g c = let in_area = starts_inside c.args.areas.now c.args.m.now c.requires.placed in record { starts = in_area.0; inside = in_area.1; small = c.requires.fits.small_data }

pub read_new-requires : goal.read_new-requires
read_new-requires g c =
    let areas = c.args.areas.now in
    let size = accepted_size areas.size c.requires.fits.accepted in
    record { some = Prim.omega (arith, size.0); short = size.1; inside = block_fits areas.size c.data_block.result (areas.data_base + areas.data_blocks) _ c.data_block.ensures.high (Prim.omega (arith, c.requires.fits.«data», c.parts.invariant.kept.same_size)) }

pub parts-preserved : goal.parts-preserved
parts-preserved g c =
    let areas = c.args.areas.now in
    let m = c.args.m.now in
    let t = c.parts.t in
    let old = c.parts.invariant in
    let kept = c.in_ok-block.ensures.kept in
    let block = c.deref.result.now in
    record {
      found = λ image told.
          let held : block ≡ block_of areas.size image (data_block areas m.paddr t) = c.deref.ensures.value ∙ (c.in_ok-block.ensures.found image (old.kept.same_bytes ∙ told) ∙ ap (block_of areas.size image) c.data_block.ensures.here) in
          let items = c.in_ok-extend_from_slice.ensures.items in
          let before = old.found image told in
          let more = part_more image areas m t in
          Prim.cc;
      long = rw c.in_ok-extend_from_slice.ensures.items (Prim.omega (arith, length-append c.parts.bytes.items block, c.deref.ensures.len, c.in_ok-block.ensures.long, old.long));
      kept = kept_on old.kept kept;
      reads = Prim.omega (arith, c.in_ok-block.ensures.reads, old.reads);
    }

pub returns-clause-len : goal.returns-clause-len
returns-clause-len g c =
    let areas = c.args.areas.now in
    let m = c.args.m.now in
    let all : c.parts.t ≡ object_blocks areas m = Prim.omega (arith, c.parts.auto.t-end, c.parts-test.false) in
    c.parts.invariant.long ∙ (ap (λ n. areas.size * n) all ∙ whole_blocks areas m c.requires.placed)

pub returns-clause-found : goal.returns-clause-found
returns-clause-found g c image told =
    let all : c.parts.t ≡ object_blocks c.args.areas.now c.args.m.now = Prim.omega (arith, c.parts.auto.t-end, c.parts-test.false) in
    c.parts.invariant.found image told ∙ ap (mapped_part image c.args.areas.now c.args.m.now) all
