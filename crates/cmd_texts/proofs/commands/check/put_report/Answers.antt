-- The nine lines are put, and after them those of the notes.
use Rattle.std.proofs.Common.{List, ◌∙◌, ap, subst}
use Rattle.std.specs.List.{flat_map}
use Rattle.view_rules.specs.declared.notes.Note.{Note}
use Rattle.apfs_check.specs.Report.{Told}
use Rattle.cmd_lines.specs.ReportText.{head_text, note_line}
use Rattle.cmd_lines.specs.Written.{sunk}
use Rattle.cmd_lines.specs.Putting.{IsPut}
use Rattle.cmd_lines.proofs.Puts.{put_after, put_cut}
use Rattle.cmd_texts.proofs.commands.check.put_report.Goals as goal

pub returns-in-Ok : goal.returns-in-Ok
returns-in-Ok g c =
    let told = c.args.report.now in
    let P : List Note → Type 0 = λ notes. IsPut (flat_map note_line notes) c.put_lines.result (sunk g.W.Sink.contents g.W.Sink.faults c.put_head.new.out c.put_lines.new.out) in
    put_after (head_text told) (flat_map note_line told.notes) c.put_lines.result
    (g.W.Sink.contents c.args.out.now) (g.W.Sink.contents c.put_head.new.out) (g.W.Sink.contents c.put_lines.new.out)
    (g.W.Sink.faults c.args.out.now) (g.W.Sink.faults c.put_head.new.out) (g.W.Sink.faults c.put_lines.new.out)
    c.in-Ok.ensures (subst P (c.deref.ensures.value ∙ ap (λ (t : Told). t.notes) c.report.view_is) c.put_lines.ensures)

pub returns-in-Err : goal.returns-in-Err
returns-in-Err g c =
    let told = c.args.report.now in
    put_cut (head_text told) (flat_map note_line told.notes) c.in-Err.stopped
    (g.W.Sink.contents c.args.out.now) (g.W.Sink.contents c.put_head.new.out) (g.W.Sink.faults c.args.out.now) (g.W.Sink.faults c.put_head.new.out) c.in-Err.ensures
