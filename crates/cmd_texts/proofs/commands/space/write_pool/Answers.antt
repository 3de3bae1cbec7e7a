-- What stops the pool's queue is told.
use Rattle.std.proofs.Common.{◌≡◌, ◌∙◌, ap, sym, refl}
use Rattle.space_pool.specs.declared.entry.Queue.TheVariants.{Pool}
use Rattle.reach_rules.specs.declared.fault.ReachFault.TheVariants as sweeps
use Rattle.apfs_check.specs.Raised.{of_sweep}
use Rattle.cmd_texts.specs.Checkpoints.{IsNewest}
use Rattle.cmd_lines.specs.Stops.{stopped_at}
use Rattle.cmd_lines.specs.Words.{Space}
use Rattle.cmd_texts.specs.Handed.{looked}
use Rattle.cmd_lines.specs.Written.{sunk}
use Rattle.cmd_texts.proofs.Endings.{stop_ended, ended_later}
use Rattle.cmd_texts.proofs.Spaces.{queue_stops}
use Rattle.cmd_texts.proofs.commands.space.write_pool.Goals as goal

pub returns-in-Ok-clause-answer : goal.returns-in-Ok-clause-answer
returns-in-Ok-clause-answer g c =
    ended_later g.S.BlockSource.bytes g.S.BlockSource.faults Space c.args.src.now c.queue.new.src c.write_main.new.src c.write_main.result (sunk g.W.Sink.contents g.W.Sink.faults c.args.out.now c.write_main.new.out)
    c.in-Ok.ensures.kept.same_bytes c.in-Ok.ensures.kept.later c.write_main.ensures.answer

pub returns-in-Err-clause-answer : goal.returns-in-Err-clause-answer
returns-in-Err-clause-answer g c =
    let stop = c.in-Err.stop in
    let seen = c.args.checkpoint.now in
    let same : c.stopped_by.result ≡ stopped_at (λ why. of_sweep seen.line.xid (sweeps.Pool why)) stop = c.stopped_by.ensures ∙ ap (λ n. stopped_at (λ why. of_sweep n (sweeps.Pool why)) stop) c.xid.ensures in
    rw same
    (stop_ended Space (looked g.S.BlockSource.bytes g.S.BlockSource.faults c.args.src.now c.queue.new.src) (λ why. of_sweep seen.line.xid (sweeps.Pool why)) stop
    (g.W.Sink.contents c.args.out.now) (g.W.Sink.faults c.args.out.now) refl
    (λ image given.
    let newest : IsNewest image seen = record { newest = c.requires.found image given; plain = c.requires.plain } in
    queue_stops image seen c.args.space.now Pool stop newest (c.requires.space image given) (c.in-Err.ensures.present image given) (c.in-Err.ensures.exact image given)) c.in-Err.ensures.cause)

pub write_main-requires-clause-bits : goal.write_main-requires-clause-bits
write_main-requires-clause-bits g c image given = c.requires.bits image (sym c.in-Ok.ensures.kept.same_bytes ∙ given)

pub write_main-requires-clause-pool : goal.write_main-requires-clause-pool
write_main-requires-clause-pool g c image given = rw c.deref.ensures.value (c.in-Ok.ensures.clear image (sym c.in-Ok.ensures.kept.same_bytes ∙ given))
