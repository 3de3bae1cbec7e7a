use Rattle.std.proofs.Common.{◌≡◌, ◌∙◌, ◌++◌, ap, arith}
use Rattle.nx_ring.specs.Objects.{first_blocks, object_blocks}
use Rattle.nx_ring.proofs.More.{object_more}
use Rattle.nx_ring.proofs.Parts.{starts_inside}
use Rattle.nx_ring.proofs.valid.add_blocks.Goals as goal

pub data_block-requires : goal.data_block-requires
data_block-requires c = let in_area = starts_inside c.args.areas.now c.args.m.now c.requires.placed in record { starts = in_area.0; inside = in_area.1; small = c.requires.small }

pub each-preserved : goal.each-preserved
each-preserved c =
    let items = c.in_ok-push.ensures.items in
    let before = c.each.invariant in
    let block = c.data_block.ensures.here in
    let more = object_more c.args.areas.now c.args.m.now c.args.into.now.items c.each.t in
    Prim.cc

pub returns-clause-added : goal.returns-clause-added
returns-clause-added c =
    let all : c.each.t ≡ object_blocks c.args.areas.now c.args.m.now = Prim.omega (arith, c.each.auto.t-end, c.each-test.false) in
    c.each.invariant ∙ ap (λ n. c.args.into.now.items ++ first_blocks c.args.areas.now c.args.m.now n) all
