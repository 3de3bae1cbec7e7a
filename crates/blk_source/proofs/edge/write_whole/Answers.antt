use Rattle.std.proofs.Common.{◌++◌, take}
use Rattle.std.proofs.KnownBytes.{Appends-trans}
use Rattle.blk_source.proofs.Writes.{moves_front}
use Rattle.blk_source.proofs.edge.write_whole.Goals as goal

pub loop-preserved : goal.loop-preserved
loop-preserved g c =
    let (front, split, grown) = c.loop.invariant in
    let rest = c.loop.rest.now in
    let n = c.in_ok-taken.taken in
    (front ++ take n rest, moves_front _ front rest n split, Appends-trans _ _ _ _ _ grown c.in_ok-taken.ensures.bytes)
