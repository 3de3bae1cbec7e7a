-- The candidates are put, or what stops the ring is told.
use Rattle.std.proofs.Common.{refl}
use Rattle.cmd_texts.specs.Commands.Ring.{ring_text}
use Rattle.apfs_check.specs.Raised.{of_ring}
use Rattle.cmd_lines.specs.Words.{Ring}
use Rattle.cmd_texts.specs.Handed.{looked}
use Rattle.cmd_lines.specs.Written.{sunk}
use Rattle.cmd_texts.proofs.Endings.{put_ended, stop_ended}
use Rattle.cmd_texts.proofs.Stops.{ring_stops}
use Rattle.cmd_texts.proofs.commands.ring.write.Goals as goal

pub returns-in-Ok-clause-answer : goal.returns-in-Ok-clause-answer
returns-in-Ok-clause-answer g c =
    put_ended Ring (looked g.S.BlockSource.bytes g.S.BlockSource.faults c.args.src.now c.ring.new.src) (ring_text c.in-Ok.lines.items) c.put_lines.result
    (sunk g.W.Sink.contents g.W.Sink.faults c.args.out.now c.put_lines.new.out)
    (c.in-Ok.lines.items, refl) (λ image given. (c.in-Ok.lines.items, c.in-Ok.ensures.clear image given, refl))
    (rw c.as_slice.ensures.value at c.put_lines.ensures)

pub returns-in-Err-clause-answer : goal.returns-in-Err-clause-answer
returns-in-Err-clause-answer g c =
    let stop = c.in-Err.stop in
    rw c.stopped_by.ensures
    (stop_ended Ring (looked g.S.BlockSource.bytes g.S.BlockSource.faults c.args.src.now c.ring.new.src) of_ring stop
    (g.W.Sink.contents c.args.out.now) (g.W.Sink.faults c.args.out.now) refl
    (λ image given. ring_stops image stop (c.in-Err.ensures.first image given) (c.in-Err.ensures.present image given)) c.in-Err.ensures.cause)
