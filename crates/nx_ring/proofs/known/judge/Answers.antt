use Rattle.std.proofs.Common.{◌≡◌, ◌∙◌, ◌&&◌, ◌+◌, ◌≤◌, true, false, length, ap, sym, arith}
use Rattle.std.proofs.lemmas.Grind.{common_steps}
use Rattle.apfs_model.specs.Blocks.{block_of}
use Rattle.blk_read.proofs.Sizes.{accepted_size}
use Rattle.nx_ring.specs.Objects.{mapped_part, mapped_bytes}
use Rattle.nx_ring.specs.Known.{head_of, is_plain, is_expected}
use Rattle.nx_ring.proofs.Fitting.{block_fits}
use Rattle.nx_ring.proofs.Parts.{first_part, header_fits, some_blocks, starts_inside}
use Rattle.nx_ring.proofs.Heads.{first_head, flawed, summed}
use Rattle.nx_ring.proofs.known.judge.Goals as goal

pub returns-then-not-is_plain-clause-found : goal.returns-then-not-is_plain-clause-found
returns-then-not-is_plain-clause-found g c image told =
    let areas = c.args.areas.now in
    let m = c.args.m.now in
    let bytes = c.as_slice-bytes.result.now in
    let part : bytes ≡ mapped_part image areas m 1 = c.as_slice-bytes.ensures.value ∙ (c.in_ok-first.ensures.found image told ∙ (ap (block_of areas.size image) c.data_block.ensures.here ∙ sym (first_part image areas m))) in
    let long : 36 ≤ length bytes = Prim.omega (arith, header_fits areas.size c.requires.fits.accepted, ap length c.as_slice-bytes.ensures.value, c.in_ok-first.ensures.long) in
    let h = first_head image areas m bytes c.requires.placed long part in
    let plain : is_plain (mapped_bytes image areas m) ≡ false = h.1 ∙ (sym c.is_plain.ensures ∙ c.if-not-is_plain.true) in
    sym (flawed c.args.xid m (mapped_bytes image areas m) (ap (λ b. b && is_expected c.args.xid m (head_of (mapped_bytes image areas m))) plain))

pub returns-then-not-is_expected-clause-found : goal.returns-then-not-is_expected-clause-found
returns-then-not-is_expected-clause-found g c image told =
    let areas = c.args.areas.now in
    let m = c.args.m.now in
    let bytes = c.as_slice-bytes.result.now in
    let part : bytes ≡ mapped_part image areas m 1 = c.as_slice-bytes.ensures.value ∙ (c.in_ok-first.ensures.found image told ∙ (ap (block_of areas.size image) c.data_block.ensures.here ∙ sym (first_part image areas m))) in
    let long : 36 ≤ length bytes = Prim.omega (arith, header_fits areas.size c.requires.fits.accepted, ap length c.as_slice-bytes.ensures.value, c.in_ok-first.ensures.long) in
    let h = first_head image areas m bytes c.requires.placed long part in
    let plain : is_plain (mapped_bytes image areas m) ≡ true = h.1 ∙ (sym c.is_plain.ensures ∙ c.if-not-is_plain.false) in
    let other : is_expected c.args.xid m (head_of (mapped_bytes image areas m)) ≡ false = ap (is_expected c.args.xid m) (h.0 ∙ sym c.head_in-head.ensures) ∙ (sym c.is_expected.ensures ∙ c.if-not-is_expected.true) in
    sym (flawed c.args.xid m (mapped_bytes image areas m) (ap (λ b. b && is_expected c.args.xid m (head_of (mapped_bytes image areas m))) plain ∙ other))

pub returns-clause-found : goal.returns-clause-found
returns-clause-found g c image told =
    let areas = c.args.areas.now in
    let m = c.args.m.now in
    let bytes = c.as_slice-bytes.result.now in
    let part : bytes ≡ mapped_part image areas m 1 = c.as_slice-bytes.ensures.value ∙ (c.in_ok-first.ensures.found image told ∙ (ap (block_of areas.size image) c.data_block.ensures.here ∙ sym (first_part image areas m))) in
    let long : 36 ≤ length bytes = Prim.omega (arith, header_fits areas.size c.requires.fits.accepted, ap length c.as_slice-bytes.ensures.value, c.in_ok-first.ensures.long) in
    let h = first_head image areas m bytes c.requires.placed long part in
    let plain : is_plain (mapped_bytes image areas m) ≡ true = h.1 ∙ (sym c.is_plain.ensures ∙ c.if-not-is_plain.false) in
    let same : is_expected c.args.xid m (head_of (mapped_bytes image areas m)) ≡ true = ap (is_expected c.args.xid m) (h.0 ∙ sym c.head_in-head.ensures) ∙ (sym c.is_expected.ensures ∙ c.if-not-is_expected.false) in
    c.in_ok-summed.ensures.found image (c.in_ok-first.ensures.kept.same_bytes ∙ told) part ∙ sym (summed c.args.xid m (mapped_bytes image areas m) plain same)

pub returns-clause-known : goal.returns-clause-known
returns-clause-known g c image told was =
    let areas = c.args.areas.now in
    let m = c.args.m.now in
    let bytes = c.as_slice-bytes.result.now in
    let part : bytes ≡ mapped_part image areas m 1 = c.as_slice-bytes.ensures.value ∙ (c.in_ok-first.ensures.found image told ∙ (ap (block_of areas.size image) c.data_block.ensures.here ∙ sym (first_part image areas m))) in
    let long : 36 ≤ length bytes = Prim.omega (arith, header_fits areas.size c.requires.fits.accepted, ap length c.as_slice-bytes.ensures.value, c.in_ok-first.ensures.long) in
    let h = first_head image areas m bytes c.requires.placed long part in
    let plain : is_plain (mapped_bytes image areas m) ≡ true = h.1 ∙ (sym c.is_plain.ensures ∙ c.if-not-is_plain.false) in
    let right = c.in_ok-summed.ensures.found image (c.in_ok-first.ensures.kept.same_bytes ∙ told) part in
    c.in_ok-keep.ensures.known image areas was (Prim.grind (arith, common_steps, c.then_some.ensures, right, plain, h.0, c.head_in-head.ensures))

pub data_block-requires : goal.data_block-requires
data_block-requires g c = let in_area = starts_inside c.args.areas.now c.args.m.now c.requires.placed in record { starts = in_area.0; inside = in_area.1; small = c.requires.fits.small_data }

pub read_new-requires : goal.read_new-requires
read_new-requires g c =
    let areas = c.args.areas.now in
    let size = accepted_size areas.size c.requires.fits.accepted in
    record { some = Prim.omega (arith, size.0); short = size.1; inside = block_fits areas.size c.data_block.result (areas.data_base + areas.data_blocks) _ c.data_block.ensures.high c.requires.fits.«data» }

pub returns-in_err-first-clause-reads : goal.returns-in_err-first-clause-reads
returns-in_err-first-clause-reads g c = Prim.omega (arith, some_blocks c.args.areas.now c.args.m.now c.requires.placed, c.in_err-first.ensures.reads)

pub returns-then-not-is_plain-clause-reads : goal.returns-then-not-is_plain-clause-reads
returns-then-not-is_plain-clause-reads g c = Prim.omega (arith, some_blocks c.args.areas.now c.args.m.now c.requires.placed, c.in_ok-first.ensures.reads)

pub returns-then-not-is_expected-clause-reads : goal.returns-then-not-is_expected-clause-reads
returns-then-not-is_expected-clause-reads g c = Prim.omega (arith, some_blocks c.args.areas.now c.args.m.now c.requires.placed, c.in_ok-first.ensures.reads)
