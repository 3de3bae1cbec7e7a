-- What the command came to over the source and the folder, or that there is no folder.
use Rattle.std.proofs.Common.{refl}
use Rattle.cmd_words.specs.Lent.{target_asked}
use Rattle.cmd_texts.specs.Handed.{looked}
use Rattle.cmd_lines.specs.Words.{Export, line_in}
use Rattle.apfs_cli.proofs.Plugs.{come_nowhere}
use Rattle.apfs_cli.proofs.program.fill_given.Goals as goal

pub returns-in-Nothing-clause-answer : goal.returns-in-Nothing-clause-answer
returns-in-Nothing-clause-answer g c =
    rw c.in-Nothing.is
    (come_nowhere (line_in c.args.in_partition (Export (target_asked c.args.target))) refl (looked g.S.BlockSource.bytes g.S.BlockSource.faults c.args.src c.args.src) (g.W.Sink.contents c.args.out.now) (g.W.Sink.faults c.args.out.now))
