-- The volumes are put, or what stops their heads is told.
use Rattle.std.proofs.Common.{◌≡◌, ◌∙◌, ap, refl}
use Rattle.cmd_texts.specs.Checkpoints.{IsNewest}
use Rattle.cmd_texts.specs.Commands.Volumes.{volumes_text}
use Rattle.apfs_check.specs.Raised.{of_volume}
use Rattle.cmd_lines.specs.Stops.{stopped_at}
use Rattle.cmd_lines.specs.Words.{Volumes}
use Rattle.cmd_texts.specs.Handed.{looked}
use Rattle.cmd_lines.specs.Written.{sunk}
use Rattle.cmd_texts.proofs.Endings.{put_ended, stop_ended}
use Rattle.cmd_texts.proofs.Stops.{heads_stops}
use Rattle.cmd_texts.proofs.commands.volumes.write_at.Goals as goal

pub returns-in-Ok-clause-answer : goal.returns-in-Ok-clause-answer
returns-in-Ok-clause-answer g c =
    let seen = c.args.checkpoint.now in
    put_ended Volumes (looked g.S.BlockSource.bytes g.S.BlockSource.faults c.args.src.now c.heads.new.src) (volumes_text c.in-Ok.heads.items) c.put_lines.result
    (sunk g.W.Sink.contents g.W.Sink.faults c.args.out.now c.put_lines.new.out)
    (c.in-Ok.heads.items, refl) (λ image given. (seen, c.in-Ok.heads.items, record { newest = c.requires.found image given; plain = c.requires.plain }, c.in-Ok.ensures.clear image given, refl))
    (rw c.as_slice.ensures.value at c.put_lines.ensures)

pub returns-in-Err-clause-answer : goal.returns-in-Err-clause-answer
returns-in-Err-clause-answer g c =
    let stop = c.in-Err.stop in
    let seen = c.args.checkpoint.now in
    let same : c.stopped_by.result ≡ stopped_at (of_volume seen.line.xid) stop = c.stopped_by.ensures ∙ ap (λ n. stopped_at (of_volume n) stop) c.xid.ensures in
    rw same
    (stop_ended Volumes (looked g.S.BlockSource.bytes g.S.BlockSource.faults c.args.src.now c.heads.new.src) (of_volume seen.line.xid) stop
    (g.W.Sink.contents c.args.out.now) (g.W.Sink.faults c.args.out.now) refl
    (λ image given.
    let newest : IsNewest image seen = record { newest = c.requires.found image given; plain = c.requires.plain } in
    heads_stops image seen stop newest (c.in-Err.ensures.present image given) (c.in-Err.ensures.exact image given)) c.in-Err.ensures.cause)
