use Rattle.std.proofs.Common.{◌≤◌}
use Rattle.img_make.proofs.making.image_that_fits.Given as goal

abbrev pub invariant-loop : goal.invariant-loop
invariant-loop l = (8 ≤ l.pool_blocks) × (l.pool_blocks ≤ 127)
