use Rattle.std.proofs.Common.{◌≡◌, ◌∙◌, ◌+◌, ◌++◌, ℕ, List, ap, sym, arith}
use Rattle.apfs_model.specs.Blocks.{block_of}
use Rattle.blk_read.proofs.Sizes.{accepted_size}
use Rattle.nx_ring.specs.declared.areas.Areas.{Areas}
use Rattle.nx_ring.specs.declared.line.RingLine.{RingLine}
use Rattle.nx_ring.specs.Candidates.{ring_block}
use Rattle.nx_ring.specs.Mappings.{mappings_in, is_map}
use Rattle.nx_ring.specs.Valid.{index_after, map_block, is_map_after}
use Rattle.nx_ring.proofs.Fitting.{block_fits}
use Rattle.nx_ring.proofs.valid.add_map.Goals as goal

there : (image : List ℕ) (areas : Areas) (line : RingLine) (j index : ℕ) (bytes : List ℕ) → index ≡ index_after areas line j → bytes ≡ block_of areas.size image (areas.desc_base + index) → bytes ≡ map_block image areas line j
unfolding ring_block
there image areas line j index bytes here e = e ∙ ap (λ i. block_of areas.size image (areas.desc_base + i)) here

is_there : (image : List ℕ) (areas : Areas) (line : RingLine) (j index : ℕ) (bytes : List ℕ) → index ≡ index_after areas line j → bytes ≡ block_of areas.size image (areas.desc_base + index) → is_map (areas.desc_base + index) line.xid bytes ≡ is_map_after image areas line j
unfolding is_map_after
is_there image areas line j index bytes here e = let same = there image areas line j index bytes here e in Prim.cc

pub read_new-requires : goal.read_new-requires
read_new-requires g c =
    let areas = c.args.areas.now in
    let size = accepted_size areas.size c.requires.accepted in
    record { some = Prim.omega (arith, size.0); short = size.1; inside = block_fits areas.size (areas.desc_base + c.index_after.result) (areas.desc_base + areas.desc_blocks) _ (Prim.omega (arith, c.index_after.ensures.inside)) c.requires.desc }

pub returns-then-not-is_map-clause-found : goal.returns-then-not-is_map-clause-found
returns-then-not-is_map-clause-found g c image told =
    let bytes = c.as_slice-bytes.ensures.value ∙ c.in_ok-held.ensures.found image told in
    sym c.if-not-is_map.true ∙ (c.is_map.ensures.decides ∙ is_there image c.args.areas.now c.args.line.now c.args.j c.index_after.result c.as_slice-bytes.result.now c.index_after.ensures.here bytes)

pub returns-clause-found : goal.returns-clause-found
returns-clause-found g c image told =
    let bytes = c.as_slice-bytes.ensures.value ∙ c.in_ok-held.ensures.found image told in
    sym c.if-not-is_map.false ∙ (c.is_map.ensures.decides ∙ is_there image c.args.areas.now c.args.line.now c.args.j c.index_after.result c.as_slice-bytes.result.now c.index_after.ensures.here bytes)

pub returns-clause-added : goal.returns-clause-added
returns-clause-added g c image told is =
    let bytes = c.as_slice-bytes.ensures.value ∙ c.in_ok-held.ensures.found image told in
    c.in_ok-add_mappings.ensures.added
    ∙ ap (λ block. c.args.into.now.items ++ mappings_in block) (there image c.args.areas.now c.args.line.now c.args.j c.index_after.result c.as_slice-bytes.result.now c.index_after.ensures.here bytes)
