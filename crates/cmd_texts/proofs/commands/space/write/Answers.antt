-- What comes of the newest checkpoint, or what stops it.
use Rattle.std.proofs.Common.{refl}
use Rattle.apfs_check.specs.Raised.{of_ring}
use Rattle.cmd_lines.specs.Words.{Space}
use Rattle.cmd_texts.specs.Handed.{looked}
use Rattle.cmd_lines.specs.Written.{sunk}
use Rattle.cmd_texts.proofs.Endings.{stop_ended, ended_later}
use Rattle.cmd_texts.proofs.Spaces.{newest_stops}
use Rattle.cmd_texts.proofs.commands.space.write.Goals as goal

pub returns-in-Ok-clause-answer : goal.returns-in-Ok-clause-answer
returns-in-Ok-clause-answer g c =
    ended_later g.S.BlockSource.bytes g.S.BlockSource.faults Space c.args.src.now c.newest.new.src c.write_at.new.src c.write_at.result (sunk g.W.Sink.contents g.W.Sink.faults c.args.out.now c.write_at.new.out)
    c.in-Ok.ensures.kept.same_bytes c.in-Ok.ensures.kept.later c.write_at.ensures.answer

pub returns-in-Err-clause-answer : goal.returns-in-Err-clause-answer
returns-in-Err-clause-answer g c =
    let stop = c.in-Err.stop in
    rw c.stopped_by.ensures
    (stop_ended Space (looked g.S.BlockSource.bytes g.S.BlockSource.faults c.args.src.now c.newest.new.src) of_ring stop
    (g.W.Sink.contents c.args.out.now) (g.W.Sink.faults c.args.out.now) refl
    (λ image given. newest_stops image stop (c.in-Err.ensures.first image given) (c.in-Err.ensures.present image given)) c.in-Err.ensures.cause)
