use Rattle.std.proofs.Common.{arith, sym, subst}
use Rattle.std.proofs.lemmas.Grind.{common_steps}
use Rattle.nx_ring.specs.declared.areas.Areas.{Areas}
use Rattle.nx_ring.specs.Zero.{is_short}
use Rattle.nx_ring.specs.Reading.{Fits}
use Rattle.nx_ring.proofs.Fitting.{areas_fit, read_size}
use Rattle.nx_ring.proofs.zero.read_areas.Goals as goal

pub returns-clause-fits : goal.returns-clause-fits
unfolding is_short
returns-clause-fits c =
    let P : Areas → Type 0 = λ areas. Fits areas c.args.len in
    subst P (sym c.of.ensures)
    (areas_fit c.args.len c.in-Ok.zero c.ranges.len.fits
    (read_size c.args.bytes.now c.in-Ok.zero (sym c.in-Ok.ensures))
    (Prim.grind (arith, common_steps, c.are_inside.ensures, c.if-not-are_inside.false))
    (Prim.grind (arith, common_steps, c.block_size.ensures, c.from.ensures, c.block_count-need.ensures, c.if-have-need.false))
    (Prim.grind (arith, common_steps, c.are_contiguous.ensures, c.if-not-are_contiguous.false)))
