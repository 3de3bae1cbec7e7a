-- The lines of the newest checkpoint are put, or what stops it is told.
use Rattle.std.proofs.Common.{refl}
use Rattle.cmd_texts.specs.Commands.Info.{info_text}
use Rattle.apfs_check.specs.Raised.{of_ring}
use Rattle.cmd_lines.specs.Words.{Info}
use Rattle.cmd_texts.specs.Handed.{looked}
use Rattle.cmd_lines.specs.Written.{sunk}
use Rattle.cmd_texts.proofs.Endings.{put_ended, stop_ended}
use Rattle.cmd_texts.proofs.Stops.{info_stops}
use Rattle.cmd_texts.proofs.commands.info.write.Goals as goal

pub returns-in-Ok-clause-answer : goal.returns-in-Ok-clause-answer
returns-in-Ok-clause-answer g c =
    put_ended Info (looked g.S.BlockSource.bytes g.S.BlockSource.faults c.args.src.now c.newest.new.src) (info_text c.in-Ok.checkpoint) c.put_text.result
    (sunk g.W.Sink.contents g.W.Sink.faults c.args.out.now c.put_text.new.out)
    (c.in-Ok.checkpoint, refl) (λ image given. (c.in-Ok.checkpoint, record { newest = c.in-Ok.ensures.clear image given; plain = c.in-Ok.ensures.plain }, refl))
    c.put_text.ensures

pub returns-in-Err-clause-answer : goal.returns-in-Err-clause-answer
returns-in-Err-clause-answer g c =
    let stop = c.in-Err.stop in
    rw c.stopped_by.ensures
    (stop_ended Info (looked g.S.BlockSource.bytes g.S.BlockSource.faults c.args.src.now c.newest.new.src) of_ring stop
    (g.W.Sink.contents c.args.out.now) (g.W.Sink.faults c.args.out.now) refl
    (λ image given. info_stops image stop (c.in-Err.ensures.first image given) (c.in-Err.ensures.present image given)) c.in-Err.ensures.cause)
