-- What a command came to over the source, or that there is none.
use Rattle.std.proofs.Common.{◌≡◌, ◌∙◌, sym}
use Rattle.std.specs.Prelude.{None}
use Rattle.blk_source.specs.declared.source.Opened.TheVariants.{Absent, Image}
use Rattle.cmd_lines.specs.Words.{line_in}
use Rattle.cmd_lines.specs.Lent.{said}
use Rattle.apfs_cli.proofs.Plugs.{come_absent}
use Rattle.cmd_texts.proofs.HandedIn.{handed_in}
use Rattle.apfs_cli.proofs.program.on_opened.Goals as goal

pub returns-in-Absent-clause-answer : goal.returns-in-Absent-clause-answer
returns-in-Absent-clause-answer g c =
    let absent : c.args.image.now ≡ Absent = sym c.replace.ensures.value ∙ c.in-Absent.is
    in rw absent (come_absent (line_in c.args.in_partition (said c.args.command)) (handed_in c.args.command) None tt (g.W.Sink.contents c.args.out.now) (g.W.Sink.faults c.args.out.now))

pub returns-in-Image-clause-answer : goal.returns-in-Image-clause-answer
returns-in-Image-clause-answer g c =
    let there : c.args.image.now ≡ Image c.in-Image.src = sym c.replace.ensures.value ∙ c.in-Image.is
    in rw there c.on_order-ended.ensures.answer
