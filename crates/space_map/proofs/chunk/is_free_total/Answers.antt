use Rattle.std.proofs.Common.{arith}
use Rattle.std.proofs.lemmas.Grind.{common_steps}
use Rattle.space_map.specs.declared.chunk.Chunk.{Chunk}
use Rattle.space_map.proofs.Telling.{free_part}
use Rattle.space_map.proofs.chunk.is_free_total.Goals as goal

pub returns-in_default : goal.returns-in_default
returns-in_default c =
    let none : Chunk = record { first = 0; blocks = 0; free = 0; bitmap = 0 } in
    grind (arith, common_steps, free_part c.args.chunks.now c.chunks.chunk-index none c.chunks-test.true, c.chunks.invariant)
