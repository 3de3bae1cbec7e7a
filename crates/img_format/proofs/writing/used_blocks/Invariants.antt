use Rattle.std.proofs.Common.{◌≡◌}
use Rattle.img_format.specs.Fresh.{blocks_from}
use Rattle.img_format.proofs.writing.used_blocks.Given as goal

abbrev pub invariant-each : goal.invariant-each
invariant-each l = l.used.items ≡ blocks_from l.fn.spec 0 l.k
