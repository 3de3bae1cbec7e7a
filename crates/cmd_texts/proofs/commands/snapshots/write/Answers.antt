-- The snapshots are put, or what stands in the way to their volume is told.
use Rattle.std.proofs.Common.{◌≡◌, ap, refl}
use Rattle.std.specs.Prelude.{Err}
use Rattle.cmd_lines.specs.declared.stopped.Stopped.{Stopped}
use Rattle.cmd_lines.specs.declared.stopped.Stopped.TheVariants.{ReadFailed}
use Rattle.cmd_texts.specs.Commands.Snapshots.{snapshots_text}
use Rattle.cmd_lines.specs.Words.{Snapshots}
use Rattle.cmd_texts.specs.Handed.{looked}
use Rattle.cmd_lines.specs.Written.{sunk}
use Rattle.cmd_texts.proofs.Endings.{put_ended}
use Rattle.cmd_texts.proofs.OverVolume.{way_ended, snapshots_over}
use Rattle.cmd_texts.proofs.commands.snapshots.write.Goals as goal

pub returns-in-Ok-clause-answer : goal.returns-in-Ok-clause-answer
returns-in-Ok-clause-answer g c =
    let reached = c.in-Ok.reached in
    put_ended (Snapshots c.args.volume) (looked g.S.BlockSource.bytes g.S.BlockSource.faults c.args.src.now c.reach.new.src) (snapshots_text reached.volume.snaps) c.put_snapshots.result
    (sunk g.W.Sink.contents g.W.Sink.faults c.args.out.now c.put_snapshots.new.out)
    (reached.volume.snaps, refl) (λ image given. (reached.checkpoint, reached.volume.head, reached.volume, c.in-Ok.ensures.clear image given, refl))
    c.put_snapshots.ensures

pub returns-in-Err-clause-answer : goal.returns-in-Err-clause-answer
returns-in-Err-clause-answer g c =
    way_ended (Snapshots c.args.volume) c.args.volume (looked g.S.BlockSource.bytes g.S.BlockSource.faults c.args.src.now c.reach.new.src) c.in-Err.stopped
    (g.W.Sink.contents c.args.out.now) (g.W.Sink.faults c.args.out.now) (snapshots_over c.args.volume) c.in-Err.ensures.way c.in-Err.ensures.looking
    (λ (e : c.in-Err.stopped ≡ ReadFailed). c.in-Err.ensures.cause (ap (λ (s : Stopped). Err s) e))
