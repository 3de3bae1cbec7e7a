use Rattle.std.proofs.Common.{◌∙◌, ap, arith}
use Rattle.std.proofs.lemmas.List.{take_all}
use Rattle.nx_ring.specs.declared.mappings.Mapping.{Mapping}
use Rattle.nx_ring.specs.Objects.{is_placed}
use Rattle.nx_ring.specs.Valid.{are_placed, blocks_of}
use Rattle.nx_ring.proofs.More.{blocks_more}
use Rattle.nx_ring.proofs.Some.{all_pass}
use Rattle.nx_ring.proofs.valid.blocks_of.Goals as goal

abbrev none : Mapping
none = record { type_bits = 0; size = 0; oid = 0; paddr = 0 }

pub add_blocks-requires-clause-placed : goal.add_blocks-requires-clause-placed
unfolding are_placed
add_blocks-requires-clause-placed c = all_pass (is_placed c.args.areas.now) c.args.mappings.now c.each.m-index none c.each-test.true c.requires.placed

pub each-preserved : goal.each-preserved
each-preserved c =
    let added = c.in_ok-add_blocks.ensures.added in
    let before = c.each.invariant in
    let more = blocks_more c.args.areas.now c.args.mappings.now c.each.m-index none c.each-test.true in
    Prim.cc

pub returns-clause-found : goal.returns-clause-found
returns-clause-found c = c.each.invariant ∙ ap (blocks_of c.args.areas.now) (take_all c.each.m-index c.args.mappings.now (Prim.omega (arith, c.each-test.false)))
