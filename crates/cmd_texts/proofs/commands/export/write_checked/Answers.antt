-- What comes of the view, or what stands in the way to it. In a container that is well-formed nothing does but that there is no volume or no snapshot.
use Rattle.std.proofs.Common.{◌≡◌, ◌∙◌, ap, sym}
use Rattle.std.specs.Prelude.{Err}
use Rattle.cmd_words.specs.Lent.{target_asked}
use Rattle.cmd_texts.specs.Handed.{looked, stored}
use Rattle.cmd_lines.specs.Words.{Export}
use Rattle.cmd_lines.specs.Written.{sunk}
use Rattle.cmd_lines.specs.declared.stopped.Stopped.{Stopped}
use Rattle.cmd_lines.specs.declared.stopped.Stopped.TheVariants.{ReadFailed}
use Rattle.cmd_texts.proofs.Exports.{export_way_ended}
use Rattle.cmd_texts.proofs.Fillings.{into_same, kept_store, unfilled}
use Rattle.cmd_lines.proofs.Puts.{rose_later}
use Rattle.cmd_texts.proofs.commands.export.write_checked.Goals as goal

pub write_view-requires-clause-clean : goal.write_view-requires-clause-clean
write_view-requires-clause-clean g c image given = c.requires.clean image (sym c.in-Ok.ensures.kept.same_bytes ∙ given)

pub write_view-requires-clause-meant : goal.write_view-requires-clause-meant
write_view-requires-clause-meant g c image given = c.in-Ok.ensures.clear image (sym c.in-Ok.ensures.kept.same_bytes ∙ given)

pub returns-in-Ok-clause-answer : goal.returns-in-Ok-clause-answer
returns-in-Ok-clause-answer g c =
    let bytes = g.S.BlockSource.bytes in
    let faults = g.S.BlockSource.faults in
    into_same (Export (target_asked c.args.target)) (looked bytes faults c.reach_view.new.src c.write_view.new.src) (looked bytes faults c.args.src.now c.write_view.new.src)
    (stored g.F.Folder.contents g.F.Folder.faults c.args.folder.now c.write_view.new.folder) c.write_view.result (sunk g.W.Sink.contents g.W.Sink.faults c.args.out.now c.write_view.new.out)
    c.in-Ok.ensures.kept.same_bytes (rose_later (faults c.args.src.now) (faults c.reach_view.new.src) (faults c.write_view.new.src) c.in-Ok.ensures.kept.later)
    c.write_view.ensures.answer

pub returns-in-Err-clause-answer : goal.returns-in-Err-clause-answer
returns-in-Err-clause-answer g c =
    let command = Export (target_asked c.args.target) in
    let source = looked g.S.BlockSource.bytes g.S.BlockSource.faults c.args.src.now c.reach_view.new.src in
    unfilled command source (stored g.F.Folder.contents g.F.Folder.faults c.args.folder.now c.args.folder.now) c.in-Err.stopped (g.W.Sink.contents c.args.out.now) (g.W.Sink.faults c.args.out.now)
    (kept_store g.F.Folder.contents g.F.Folder.faults c.args.folder.now)
    (export_way_ended (target_asked c.args.target) source c.in-Err.stopped (g.W.Sink.contents c.args.out.now) (g.W.Sink.faults c.args.out.now) c.requires.clean c.in-Err.ensures.way c.in-Err.ensures.looking
    (λ (e : c.in-Err.stopped ≡ ReadFailed). c.in-Err.ensures.cause (ap (λ (s : Stopped). Err s) e)))
