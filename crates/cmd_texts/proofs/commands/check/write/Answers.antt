-- The report is put, or what stops the check is told.
use Rattle.std.proofs.Common.{refl}
use Rattle.apfs_check.specs.declared.report.Report.{Report}
use Rattle.cmd_lines.specs.declared.words.Checks.TheVariants.{First}
use Rattle.cmd_lines.specs.ReportText.{report_text}
use Rattle.cmd_lines.specs.Words.{Check}
use Rattle.cmd_texts.specs.Handed.{looked}
use Rattle.cmd_lines.specs.Written.{sunk}
use Rattle.cmd_texts.proofs.Checked.{check_stops, flaw_ended}
use Rattle.cmd_texts.proofs.Endings.{put_ended}
use Rattle.cmd_texts.proofs.commands.check.write.Goals as goal

pub returns-in-Ok-clause-answer : goal.returns-in-Ok-clause-answer
returns-in-Ok-clause-answer g c =
    put_ended (Check c.args.profile) (looked g.S.BlockSource.bytes g.S.BlockSource.faults c.args.src.now c.checked.new.src) (report_text c.in-Ok.report) c.put_report.result
    (sunk g.W.Sink.contents g.W.Sink.faults c.args.out.now c.put_report.new.out)
    (c.in-Ok.report, refl) (λ image given. (c.in-Ok.report, c.in-Ok.ensures.clear image given, refl))
    c.put_report.ensures

pub returns-in-Err-clause-answer : goal.returns-in-Err-clause-answer
returns-in-Err-clause-answer g c =
    flaw_ended {T = Report} g.S.BlockSource.bytes g.S.BlockSource.faults (First c.args.profile) (Check c.args.profile) c.args.src.now c.checked.new.src c.in-Err.stopped
    (g.W.Sink.contents c.args.out.now) (g.W.Sink.faults c.args.out.now) (check_stops c.args.profile) c.in-Err.ensures.flaw c.in-Err.ensures.looking c.in-Err.ensures.cause
