-- The outcome is what was decided, or that memory ran out where there was none for its line.
use Rattle.std.specs.Prelude.{map}
use Rattle.std.specs.String.{string_bytes}
use Rattle.cmd_texts.specs.Handed.{looked_at, stored_in}
use Rattle.cmd_lines.specs.Words.{asked_of}
use Rattle.cmd_lines.specs.Written.{sunk}
use Rattle.apfs_cli.proofs.Plugs.{came_to}
use Rattle.apfs_cli.proofs.program.end.Goals as goal

pub returns-clause-answer : goal.returns-clause-answer
returns-clause-answer g c =
    came_to (asked_of (map string_bytes c.args.words.now)) (looked_at g.S.BlockSource.bytes g.S.BlockSource.faults c.args.image.now c.decide-ended.new.image)
    (stored_in g.F.Folder.contents g.F.Folder.faults c.args.folder.now c.decide-ended.new.folder) c.decide-ended.result c.close.result
    (sunk g.W.Sink.contents g.W.Sink.faults c.args.out.now c.decide-ended.new.out) (sunk g.E.Sink.contents g.E.Sink.faults c.args.err.now c.close.new.err)
    c.decide-ended.ensures.answer c.close.ensures
