-- Each status says what the outcome of that status says of the check.
use Rattle.std.specs.Prelude.{ℕ, Option, Some, None}
use Rattle.cmd_texts.specs.Handed.{Looked, looked, Stored}
use Rattle.cmd_texts.specs.Says.{CameTo}
use Rattle.cmd_lines.specs.Words.{Line, Check, plain_line}
use Rattle.cmd_lines.specs.Written.{Sunk, sunk}
use Rattle.apfs_cli.proofs.Statuses.{text_row, fault_row, read_failed_row, write_failed_row, out_of_memory_row, feature_row, completed_row, lead_row, checked_whole, checked_flawed}
use Rattle.apfs_cli.proofs.program.report.Goals as goal

-- a fact of a run, by what it came to
at_end : {F : Option Line → Option Looked → Option Stored → ℕ → Sunk → Sunk → Type 0} (g : _) (c : goal.After-end_check g) →
    ((asked : Option Line) (image : Option Looked) (folder : Option Stored) (result : ℕ) (out err : Sunk) → CameTo asked image folder result out err → F asked image folder result out err) →
    F (Some (plain_line (Check c.args.profile))) (Some (looked g.S.BlockSource.bytes g.S.BlockSource.faults c.args.src.now c.end_check.new.src)) None c.end_check.result
    (sunk g.W.Sink.contents g.W.Sink.faults c.args.out.now c.end_check.new.out) (sunk g.E.Sink.contents g.E.Sink.faults c.args.err.now c.end_check.new.err)
at_end g c row =
    row (Some (plain_line (Check c.args.profile))) (Some (looked g.S.BlockSource.bytes g.S.BlockSource.faults c.args.src.now c.end_check.new.src)) None c.end_check.result
    (sunk g.W.Sink.contents g.W.Sink.faults c.args.out.now c.end_check.new.out) (sunk g.E.Sink.contents g.E.Sink.faults c.args.err.now c.end_check.new.err) c.end_check.ensures.answer

pub returns-clause-text : goal.returns-clause-text
returns-clause-text g c = at_end g c text_row

pub returns-clause-fault : goal.returns-clause-fault
returns-clause-fault g c = at_end g c fault_row

pub returns-clause-read_failed : goal.returns-clause-read_failed
returns-clause-read_failed g c = at_end g c read_failed_row

pub returns-clause-write_failed : goal.returns-clause-write_failed
returns-clause-write_failed g c = at_end g c write_failed_row

pub returns-clause-out_of_memory : goal.returns-clause-out_of_memory
returns-clause-out_of_memory g c = at_end g c out_of_memory_row

pub returns-clause-feature : goal.returns-clause-feature
returns-clause-feature g c = at_end g c feature_row

pub returns-clause-completed : goal.returns-clause-completed
returns-clause-completed g c = at_end g c completed_row

pub returns-clause-lead : goal.returns-clause-lead
returns-clause-lead g c = at_end g c lead_row

pub returns-clause-clean : goal.returns-clause-clean
returns-clause-clean g c =
    checked_whole c.args.profile (looked g.S.BlockSource.bytes g.S.BlockSource.faults c.args.src.now c.end_check.new.src) c.end_check.result
    (sunk g.W.Sink.contents g.W.Sink.faults c.args.out.now c.end_check.new.out) (sunk g.E.Sink.contents g.E.Sink.faults c.args.err.now c.end_check.new.err) c.end_check.ensures.answer

pub returns-clause-flawed : goal.returns-clause-flawed
returns-clause-flawed g c =
    checked_flawed c.args.profile (looked g.S.BlockSource.bytes g.S.BlockSource.faults c.args.src.now c.end_check.new.src) c.end_check.result
    (sunk g.W.Sink.contents g.W.Sink.faults c.args.out.now c.end_check.new.out) (sunk g.E.Sink.contents g.E.Sink.faults c.args.err.now c.end_check.new.err) c.end_check.ensures.answer
