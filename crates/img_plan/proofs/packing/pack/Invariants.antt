use Rattle.std.proofs.Common.{◌≡◌}
use Rattle.img_plan.specs.Packing.{IsPacking}
use Rattle.img_plan.proofs.packing.pack.Given as goal

abbrev pub invariant-items : goal.invariant-items
invariant-items l = record { packing : IsPacking l.yielded l.packing; first : l.packing.first ≡ l.first }
