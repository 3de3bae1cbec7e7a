-- All lines are put, or what stops the main queue is told.
use Rattle.std.proofs.Common.{◌≡◌, ◌∙◌, ap, refl}
use Rattle.space_pool.specs.declared.entry.Queue.TheVariants.{Main}
use Rattle.reach_rules.specs.declared.fault.ReachFault.TheVariants as sweeps
use Rattle.apfs_check.specs.Raised.{of_sweep}
use Rattle.cmd_texts.specs.Checkpoints.{IsNewest}
use Rattle.cmd_texts.specs.Commands.Space.{space_text}
use Rattle.cmd_lines.specs.Stops.{stopped_at}
use Rattle.cmd_lines.specs.Words.{Space}
use Rattle.cmd_texts.specs.Handed.{looked}
use Rattle.cmd_lines.specs.Written.{sunk}
use Rattle.cmd_texts.proofs.Endings.{put_ended, stop_ended}
use Rattle.cmd_texts.proofs.Spaces.{queue_stops}
use Rattle.cmd_texts.proofs.commands.space.write_main.Goals as goal

pub returns-in-Ok-clause-answer : goal.returns-in-Ok-clause-answer
returns-in-Ok-clause-answer g c =
    let seen = c.args.checkpoint.now in
    let space = c.args.space.now in
    put_ended Space (looked g.S.BlockSource.bytes g.S.BlockSource.faults c.args.src.now c.queue.new.src) (space_text space c.args.bits.now c.args.pool.now c.in-Ok.main.items) c.put_text.result
    (sunk g.W.Sink.contents g.W.Sink.faults c.args.out.now c.put_text.new.out)
    (space, c.args.bits.now, c.args.pool.now, c.in-Ok.main.items, refl)
    (
    λ image given. (
      seen,
      space,
      c.args.bits.now,
      c.args.pool.now,
      c.in-Ok.main.items,
      record {
        newest = record { newest = c.requires.found image given; plain = c.requires.plain };
        space_is = c.requires.space image given;
        bits_are = c.requires.bits image given;
        pool_is = c.requires.pool image given;
        main_is = c.in-Ok.ensures.clear image given;
      },
      refl,
    )
    )
    (rw c.deref.ensures.value at c.put_text.ensures)

pub returns-in-Err-clause-answer : goal.returns-in-Err-clause-answer
returns-in-Err-clause-answer g c =
    let stop = c.in-Err.stop in
    let seen = c.args.checkpoint.now in
    let same : c.stopped_by.result ≡ stopped_at (λ why. of_sweep seen.line.xid (sweeps.Pool why)) stop = c.stopped_by.ensures ∙ ap (λ n. stopped_at (λ why. of_sweep n (sweeps.Pool why)) stop) c.xid.ensures in
    rw same
    (stop_ended Space (looked g.S.BlockSource.bytes g.S.BlockSource.faults c.args.src.now c.queue.new.src) (λ why. of_sweep seen.line.xid (sweeps.Pool why)) stop
    (g.W.Sink.contents c.args.out.now) (g.W.Sink.faults c.args.out.now) refl
    (λ image given.
    let newest : IsNewest image seen = record { newest = c.requires.found image given; plain = c.requires.plain } in
    queue_stops image seen c.args.space.now Main stop newest (c.requires.space image given) (c.in-Err.ensures.present image given) (c.in-Err.ensures.exact image given)) c.in-Err.ensures.cause)
