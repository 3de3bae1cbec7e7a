-- What stops the pool's bitmap is told.
use Rattle.std.proofs.Common.{◌≡◌, ◌∙◌, ap, refl}
use Rattle.reach_rules.specs.declared.fault.ReachFault.TheVariants as sweeps
use Rattle.apfs_check.specs.Raised.{of_sweep}
use Rattle.cmd_texts.specs.Checkpoints.{IsNewest}
use Rattle.cmd_lines.specs.Stops.{stopped_at}
use Rattle.cmd_lines.specs.Words.{Space}
use Rattle.cmd_texts.specs.Handed.{looked}
use Rattle.cmd_lines.specs.Written.{sunk}
use Rattle.cmd_texts.proofs.Endings.{stop_ended, ended_later}
use Rattle.cmd_texts.proofs.Spaces.{pool_stops}
use Rattle.cmd_texts.proofs.commands.space.write_of.Goals as goal

pub returns-in-Ok-clause-answer : goal.returns-in-Ok-clause-answer
returns-in-Ok-clause-answer g c =
    ended_later g.S.BlockSource.bytes g.S.BlockSource.faults Space c.args.src.now c.pool_bits.new.src c.write_pool.new.src c.write_pool.result (sunk g.W.Sink.contents g.W.Sink.faults c.args.out.now c.write_pool.new.out)
    c.in-Ok.ensures.kept.same_bytes c.in-Ok.ensures.kept.later c.write_pool.ensures.answer

pub returns-in-Err-clause-answer : goal.returns-in-Err-clause-answer
returns-in-Err-clause-answer g c =
    let stop = c.in-Err.stop in
    let seen = c.args.checkpoint.now in
    let same : c.stopped_by.result ≡ stopped_at (λ why. of_sweep seen.line.xid (sweeps.Pool why)) stop = c.stopped_by.ensures ∙ ap (λ n. stopped_at (λ why. of_sweep n (sweeps.Pool why)) stop) c.xid.ensures in
    rw same
    (stop_ended Space (looked g.S.BlockSource.bytes g.S.BlockSource.faults c.args.src.now c.pool_bits.new.src) (λ why. of_sweep seen.line.xid (sweeps.Pool why)) stop
    (g.W.Sink.contents c.args.out.now) (g.W.Sink.faults c.args.out.now) refl
    (λ image given.
    let newest : IsNewest image seen = record { newest = c.requires.found image given; plain = c.requires.plain } in
    pool_stops image seen c.args.space.now stop newest (c.requires.space image given) c.in-Err.ensures.present c.in-Err.ensures.exact) c.in-Err.ensures.cause)
