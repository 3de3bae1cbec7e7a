-- The check stops the run, or what the command comes to without one is what it comes to.
use Rattle.cmd_lines.specs.Unchecked.{quick}
use Rattle.cmd_texts.specs.Handed.{looked}
use Rattle.cmd_lines.specs.Words.{Asked}
use Rattle.cmd_lines.specs.Lent.{said}
use Rattle.cmd_lines.specs.Written.{sunk}
use Rattle.cmd_texts.proofs.Checked.{clean_ended, first_stops, flaw_ended}
use Rattle.cmd_texts.proofs.Endings.{ended_later}
use Rattle.cmd_texts.proofs.HandedIn.{handed_in}
use Rattle.cmd_texts.proofs.commands.on_image.Goals as goal

pub returns-in-Ok-clause-answer : goal.returns-in-Ok-clause-answer
returns-in-Ok-clause-answer g c =
    let bytes = g.S.BlockSource.bytes in
    let faults = g.S.BlockSource.faults in
    let command : Asked = said c.args.command in
    let out = sunk g.W.Sink.contents g.W.Sink.faults c.args.out.now c.on_unchecked.new.out in
    clean_ended command (looked bytes faults c.args.src.now c.on_unchecked.new.src) c.on_unchecked.result out
    (rw c.checks.ensures at c.in-Ok.ensures.clear)
    (ended_later bytes faults (quick command) c.args.src.now c.check_first.new.src c.on_unchecked.new.src c.on_unchecked.result out c.in-Ok.ensures.kept.same_bytes c.in-Ok.ensures.kept.later c.on_unchecked.ensures.answer)

pub returns-in-Err-clause-answer : goal.returns-in-Err-clause-answer
returns-in-Err-clause-answer g c =
    let command : Asked = said c.args.command in
    flaw_ended {T = Unit} g.S.BlockSource.bytes g.S.BlockSource.faults c.checks.result command c.args.src.now c.check_first.new.src c.in-Err.stopped
    (g.W.Sink.contents c.args.out.now) (g.W.Sink.faults c.args.out.now) (rw c.checks.ensures (first_stops command (handed_in c.args.command))) c.in-Err.ensures.flaw c.in-Err.ensures.looking c.in-Err.ensures.cause
