-- The next place is the one after it.
use Rattle.std.proofs.Common.{sym}
use Rattle.blk_folder.proofs.Held.{end-next, end-last}
use Rattle.blk_folder.proofs.memory.end_at.Goals as goal

pub returns-in-Some : goal.returns-in-Some
returns-in-Some c =
    let at = c.in-Some.ensures.lookup in
    sym (end-next c.args.places.now c.args.len c.args.i c.in-Some.next.now at.3.0 at.1)

pub returns-in-None : goal.returns-in-None
returns-in-None c = sym (end-last c.args.places.now c.args.len c.args.i c.in-None.ensures.lookup.3)
