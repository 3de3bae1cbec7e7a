use Rattle.std.proofs.Common.{◌≡◌, ◌∙◌, ◌+◌, [], Some, map, refl, ap, arith}
use Rattle.std.proofs.lemmas.Grind.{common_steps}
use Rattle.std.specs.Option.{is_some}
use Rattle.blk_read.proofs.Sizes.{accepted_size}
use Rattle.nx_ring.specs.Candidates.{ring_block}
use Rattle.nx_ring.specs.Objects.{place_at}
use Rattle.nx_ring.proofs.Some.{some_at}
use Rattle.nx_ring.proofs.Fitting.{block_fits}
use Rattle.nx_ring.proofs.Read.{seen_is, objects_there}
use Rattle.nx_ring.proofs.choice.load.Goals as goal

pub returns-in_default-clause-found : goal.returns-in_default-clause-found
unfolding ring_block
returns-in_default-clause-found g c image told at valid same =
    let whole = g.met.S.BlockSource.whole c.args.src.now image told in
    let size = c.size-len.ensures in
    let index = c.from.ensures in
    let read = c.in_ok-superblock.ensures.found image told in
    let value = c.as_slice.ensures.value in
    let found = c.line_in.ensures.found in
    let none = c.in_default.is in
    absurd (Prim.cc)

pub returns-in_default-2-clause-found : goal.returns-in_default-2-clause-found
returns-in_default-2-clause-found g c image told at valid same =
    let there = objects_there image c.args.areas.now c.args.line.now c.args.mappings.now valid same in
    let found = c.in_ok-objects.ensures.found image (c.in_ok-superblock.ensures.kept.same_bytes ∙ told) in
    let none = ap is_some c.in_default-2.is in
    absurd (Prim.cc)

pub returns-clause-found : goal.returns-clause-found
unfolding ring_block
returns-clause-found g c image told at valid same =
    let read : c.in_ok-superblock.superblock.items ≡ ring_block image c.args.areas.now c.args.line.now.index = Prim.grind (arith, common_steps, c.in_ok-superblock.ensures.found image told) in
    let mapped = some_at _ c.in-Some-2.is (c.in_ok-objects.ensures.listed image (c.in_ok-superblock.ensures.kept.same_bytes ∙ told)) in
    ap Some (c.of.ensures ∙ seen_is image c.args.areas.now c.args.line.now.index c.args.line.now c.in_ok-superblock.superblock.items c.in-Some-2.objects.items [] refl read (mapped ∙ ap (map (place_at image c.args.areas.now)) same) refl)

pub read_new-requires : goal.read_new-requires
read_new-requires g c =
    let areas = c.args.areas.now in
    let size = accepted_size areas.size c.requires.fits.accepted in
    record { some = Prim.omega (arith, size.0); short = size.1; inside = block_fits areas.size (areas.desc_base + c.from.result) (areas.desc_base + areas.desc_blocks) _ (Prim.omega (arith, c.from.ensures, c.requires.inside)) c.requires.fits.desc }
