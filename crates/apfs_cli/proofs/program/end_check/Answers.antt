-- The outcome is what the check came to, or that memory ran out where there was none for its line.
use Rattle.std.specs.Prelude.{Some, None, refl}
use Rattle.cmd_texts.specs.Handed.{looked}
use Rattle.cmd_lines.specs.Words.{Check, plain_line}
use Rattle.cmd_lines.specs.Written.{sunk}
use Rattle.apfs_cli.proofs.Plugs.{come_plain, came_to}
use Rattle.apfs_cli.proofs.program.end_check.Goals as goal

pub returns-clause-answer : goal.returns-clause-answer
returns-clause-answer g c =
    let command = Check c.args.profile in
    let source = looked g.S.BlockSource.bytes g.S.BlockSource.faults c.args.src.now c.write-ended.new.src in
    let out = sunk g.W.Sink.contents g.W.Sink.faults c.args.out.now c.write-ended.new.out in
    came_to (Some (plain_line command)) (Some source) None c.write-ended.result c.close.result out (sunk g.E.Sink.contents g.E.Sink.faults c.args.err.now c.close.new.err)
    (come_plain command refl refl source c.write-ended.result out c.write-ended.ensures.answer) c.close.ensures
