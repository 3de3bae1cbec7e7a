-- The outcome over the image that was made, and its status.
use Rattle.std.specs.Prelude.{option_map}
use Rattle.cmd_lines.specs.Written.{sunk}
use Rattle.cmd_texts.proofs.Led.{came_over, status_over}
use Rattle.apfs_cli.proofs.program.gen_report.Goals as goal

pub returns-clause-answer : goal.returns-clause-answer
returns-clause-answer g c =
    came_over c.args.files (option_map (λ source. source.bytes) c.write-ended.new.made) c.write-ended.result c.close.result
    (sunk g.W.Sink.contents g.W.Sink.faults c.args.out.now c.write-ended.new.out) (sunk g.E.Sink.contents g.E.Sink.faults c.args.err.now c.close.new.err)
    c.write-ended.ensures c.close.ensures

pub returns-clause-statuses : goal.returns-clause-statuses
returns-clause-statuses g c =
    let out = sunk g.W.Sink.contents g.W.Sink.faults c.args.out.now c.write-ended.new.out in
    let err = sunk g.E.Sink.contents g.E.Sink.faults c.args.err.now c.close.new.err in
    let image = option_map (λ source. source.bytes) c.write-ended.new.made in
    status_over c.args.files image c.close.result out err (came_over c.args.files image c.write-ended.result c.close.result out err c.write-ended.ensures c.close.ensures)
