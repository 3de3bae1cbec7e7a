use Rattle.std.proofs.Common.{◌≡◌, ◌+◌, take}
use Rattle.space_map.specs.Marks.{free_sum}
use Rattle.space_map.proofs.chunk.is_free_total.Given as goal

abbrev pub invariant-chunks : goal.invariant-chunks
invariant-chunks l = l.left + free_sum (take l.chunk-index l.chunks) ≡ l.free
