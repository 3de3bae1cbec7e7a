-- Each status says what the outcome of that status says.
use Rattle.std.specs.Prelude.{ℕ, Option}
use Rattle.std.proofs.Common.{map}
use Rattle.std.specs.String.{string_bytes}
use Rattle.cmd_texts.specs.Handed.{Looked, looked_at, Stored, stored_in}
use Rattle.cmd_texts.specs.Says.{CameTo}
use Rattle.cmd_lines.specs.Words.{Line, asked_of}
use Rattle.cmd_lines.specs.Written.{Sunk, sunk}
use Rattle.apfs_cli.proofs.Statuses.{text_row, whole_row, fault_row, wrong_words_row, usage_row, read_failed_row, write_failed_row, out_of_memory_row, feature_row, answered_row, always_answered_row, clean_row, flawed_row, completed_row, no_image_row, absent_row, no_folder_row, nowhere_row, no_part_row, lead_row, turned_away_row, folder_row}
use Rattle.apfs_cli.proofs.NewRow.{new_row}
use Rattle.apfs_cli.proofs.FilledRow.{filled_row, safe_row}
use Rattle.apfs_cli.proofs.program.run.Goals as goal

-- a fact of a run, by what it came to
at_end : {F : Option Line → Option Looked → Option Stored → ℕ → Sunk → Sunk → Type 0} (g : _) (c : goal.After-end g) →
    ((asked : Option Line) (image : Option Looked) (folder : Option Stored) (result : ℕ) (out err : Sunk) → CameTo asked image folder result out err → F asked image folder result out err) →
    F (asked_of (map string_bytes c.args.words.now)) (looked_at g.S.BlockSource.bytes g.S.BlockSource.faults c.args.image.now c.end.new.image) (stored_in g.F.Folder.contents g.F.Folder.faults c.args.folder.now c.end.new.folder) c.end.result
    (sunk g.W.Sink.contents g.W.Sink.faults c.args.out.now c.end.new.out) (sunk g.E.Sink.contents g.E.Sink.faults c.args.err.now c.end.new.err)
at_end g c row =
    row (asked_of (map string_bytes c.args.words.now)) (looked_at g.S.BlockSource.bytes g.S.BlockSource.faults c.args.image.now c.end.new.image) (stored_in g.F.Folder.contents g.F.Folder.faults c.args.folder.now c.end.new.folder) c.end.result
    (sunk g.W.Sink.contents g.W.Sink.faults c.args.out.now c.end.new.out) (sunk g.E.Sink.contents g.E.Sink.faults c.args.err.now c.end.new.err) c.end.ensures.answer

pub returns-clause-text : goal.returns-clause-text
returns-clause-text g c = at_end g c text_row

pub returns-clause-whole : goal.returns-clause-whole
returns-clause-whole g c = at_end g c whole_row

pub returns-clause-fault : goal.returns-clause-fault
returns-clause-fault g c = at_end g c fault_row

pub returns-clause-wrong_words : goal.returns-clause-wrong_words
returns-clause-wrong_words g c = at_end g c wrong_words_row

pub returns-clause-usage : goal.returns-clause-usage
returns-clause-usage g c e = (at_end g c usage_row e).1

pub returns-clause-read_failed : goal.returns-clause-read_failed
returns-clause-read_failed g c = at_end g c read_failed_row

pub returns-clause-write_failed : goal.returns-clause-write_failed
returns-clause-write_failed g c = at_end g c write_failed_row

pub returns-clause-out_of_memory : goal.returns-clause-out_of_memory
returns-clause-out_of_memory g c = at_end g c out_of_memory_row

pub returns-clause-feature : goal.returns-clause-feature
returns-clause-feature g c = at_end g c feature_row

pub returns-clause-answered : goal.returns-clause-answered
returns-clause-answered g c = at_end g c answered_row

pub returns-clause-always_answered : goal.returns-clause-always_answered
returns-clause-always_answered g c = at_end g c always_answered_row

pub returns-clause-clean : goal.returns-clause-clean
returns-clause-clean g c = at_end g c clean_row

pub returns-clause-flawed : goal.returns-clause-flawed
returns-clause-flawed g c = at_end g c flawed_row

pub returns-clause-completed : goal.returns-clause-completed
returns-clause-completed g c = at_end g c completed_row

pub returns-clause-no_image : goal.returns-clause-no_image
returns-clause-no_image g c = at_end g c no_image_row

pub returns-clause-absent : goal.returns-clause-absent
returns-clause-absent g c e = (at_end g c absent_row e).1

pub returns-clause-no_folder : goal.returns-clause-no_folder
returns-clause-no_folder g c = at_end g c no_folder_row

pub returns-clause-nowhere : goal.returns-clause-nowhere
returns-clause-nowhere g c e = (at_end g c nowhere_row e).1

pub returns-clause-no_part : goal.returns-clause-no_part
returns-clause-no_part g c = at_end g c no_part_row

pub returns-clause-lead : goal.returns-clause-lead
returns-clause-lead g c = at_end g c lead_row

pub returns-clause-turned_away : goal.returns-clause-turned_away
returns-clause-turned_away g c = at_end g c turned_away_row

pub returns-clause-folder_kept : goal.returns-clause-folder_kept
returns-clause-folder_kept g c = at_end g c folder_row

pub returns-clause-new : goal.returns-clause-new
returns-clause-new g c = at_end g c new_row

pub returns-clause-filled : goal.returns-clause-filled
returns-clause-filled g c = at_end g c filled_row

pub returns-clause-safe : goal.returns-clause-safe
returns-clause-safe g c = at_end g c safe_row
