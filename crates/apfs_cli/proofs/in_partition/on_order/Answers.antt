-- What a command came to over the image, or over its partition.
use Rattle.cmd_texts.specs.Handed.{looked}
use Rattle.cmd_lines.specs.Lent.{said}
use Rattle.cmd_lines.specs.Written.{sunk}
use Rattle.apfs_cli.proofs.Plugs.{come_plain, none_taken}
use Rattle.cmd_texts.proofs.HandedIn.{handed_in}
use Rattle.apfs_cli.proofs.in_partition.on_order.Goals as goal

pub returns-else-in_partition-clause-answer : goal.returns-else-in_partition-clause-answer
returns-else-in_partition-clause-answer g c = rw c.if-in_partition.false (come_plain (said c.args.command) (handed_in c.args.command) (none_taken c.args.command) (looked g.S.BlockSource.bytes g.S.BlockSource.faults c.args.src c.on_cache.result.1) c.on_cache.result.0 (sunk g.W.Sink.contents g.W.Sink.faults c.args.out.now c.on_cache.new.out) c.on_cache.ensures.answer)

pub returns-then-in_partition-clause-answer : goal.returns-then-in_partition-clause-answer
returns-then-in_partition-clause-answer g c = rw c.if-in_partition.true c.on_partition.ensures.answer
