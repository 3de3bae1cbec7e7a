-- What the command came to over the source, or that there is none.
use Rattle.std.proofs.Common.{◌≡◌, ◌∙◌, sym, refl}
use Rattle.blk_source.specs.declared.source.Opened.TheVariants.{Absent, Image}
use Rattle.cmd_words.specs.Lent.{target_asked}
use Rattle.cmd_texts.specs.Handed.{stored_in}
use Rattle.cmd_lines.specs.Words.{Export, line_in}
use Rattle.apfs_cli.proofs.Plugs.{come_absent, kept_folder, kept_given}
use Rattle.apfs_cli.proofs.program.fill_opened.Goals as goal

pub returns-in-Absent-clause-answer : goal.returns-in-Absent-clause-answer
returns-in-Absent-clause-answer g c =
    let absent : c.args.image.now ≡ Absent = sym c.replace.ensures.value ∙ c.in-Absent.is
    in rw absent
    (come_absent (line_in c.args.in_partition (Export (target_asked c.args.target))) refl (stored_in g.F.Folder.contents g.F.Folder.faults c.args.folder.now c.args.folder.now) (kept_folder g.F.Folder.contents g.F.Folder.faults c.args.folder.now)
    (g.W.Sink.contents c.args.out.now) (g.W.Sink.faults c.args.out.now))

pub returns-in-Absent-clause-given : goal.returns-in-Absent-clause-given
returns-in-Absent-clause-given g c = kept_given c.args.folder.now

pub returns-in-Image-clause-answer : goal.returns-in-Image-clause-answer
returns-in-Image-clause-answer g c =
    let there : c.args.image.now ≡ Image c.in-Image.src = sym c.replace.ensures.value ∙ c.in-Image.is
    in rw there c.fill_given-ended.ensures.answer
