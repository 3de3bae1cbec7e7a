use Rattle.std.proofs.Common.{◌≡◌, map}
use Rattle.std.specs.List.{range_with_len}
use Rattle.nx_block.specs.Jump.{jump_extent_of}
use Rattle.reach_gather.proofs.starting.extents.Given as goal

abbrev pub invariant-extents : goal.invariant-extents
invariant-extents l = l.all.items ≡ map (jump_extent_of l.jump) (range_with_len 0 l.i)
