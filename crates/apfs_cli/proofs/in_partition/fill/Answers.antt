-- What the command came to over the image, or over its partition.
use Rattle.std.proofs.Common.{refl}
use Rattle.cmd_words.specs.Lent.{target_asked}
use Rattle.cmd_texts.specs.Handed.{looked, stored}
use Rattle.cmd_lines.specs.Words.{Export}
use Rattle.cmd_lines.specs.Written.{sunk}
use Rattle.apfs_cli.proofs.Plugs.{come_into}
use Rattle.apfs_cli.proofs.in_partition.fill.Goals as goal

pub returns-else-in_partition-clause-answer : goal.returns-else-in_partition-clause-answer
returns-else-in_partition-clause-answer g c =
    rw c.if-in_partition.false
    (come_into (Export (target_asked c.args.target)) refl (looked g.S.BlockSource.bytes g.S.BlockSource.faults c.args.src c.fill_cached.result.1) (stored g.F.Folder.contents g.F.Folder.faults c.args.folder.now c.fill_cached.new.folder) c.fill_cached.result.0
    (sunk g.W.Sink.contents g.W.Sink.faults c.args.out.now c.fill_cached.new.out) c.fill_cached.ensures.answer)

pub returns-then-in_partition-clause-answer : goal.returns-then-in_partition-clause-answer
returns-then-in_partition-clause-answer g c = rw c.if-in_partition.true c.fill_partition.ensures.answer
