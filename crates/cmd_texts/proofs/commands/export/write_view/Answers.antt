-- The view that is meant meets its rules, so its items are those of its tree.
use Rattle.std.proofs.Common.{◌≡◌, ◌∙◌, ap, sym}
use Rattle.std.specs.Prelude.{Err}
use Rattle.cmd_words.specs.Lent.{target_asked}
use Rattle.cmd_texts.specs.Handed.{looked, stored}
use Rattle.cmd_lines.specs.Words.{Export}
use Rattle.cmd_lines.specs.Written.{sunk}
use Rattle.cmd_lines.specs.declared.stopped.Stopped.{Stopped}
use Rattle.cmd_lines.specs.declared.stopped.Stopped.TheVariants.{ReadFailed}
use Rattle.cmd_texts.proofs.Exports.{lawful_at, export_items_ended}
use Rattle.cmd_texts.proofs.Fillings.{into_same, kept_store, unfilled}
use Rattle.cmd_lines.proofs.Puts.{rose_later}
use Rattle.cmd_texts.proofs.commands.export.write_view.Goals as goal

pub rows_at-requires : goal.rows_at-requires
rows_at-requires g c = rw c.site-site.ensures (record { site = c.requires.site })

pub write_rows-requires-clause-site : goal.write_rows-requires-clause-site
write_rows-requires-clause-site g c = rw (c.site-site.ensures, c.in-Ok.ensures.kept.same_size) c.requires.site

pub write_rows-requires-clause-clean : goal.write_rows-requires-clause-clean
write_rows-requires-clause-clean g c image given = c.requires.clean image (sym c.in-Ok.ensures.kept.same_bytes ∙ given)

pub write_rows-requires-clause-meant : goal.write_rows-requires-clause-meant
write_rows-requires-clause-meant g c image given = c.requires.meant image (sym c.in-Ok.ensures.kept.same_bytes ∙ given)

pub write_rows-requires-clause-items : goal.write_rows-requires-clause-items
write_rows-requires-clause-items g c image given =
    let told = sym c.in-Ok.ensures.kept.same_bytes ∙ given in
    c.in-Ok.ensures.found image told
    (lawful_at (target_asked c.args.target) (looked g.S.BlockSource.bytes g.S.BlockSource.faults c.args.src.now c.args.src.now) c.args.viewed.now.checkpoint c.args.viewed.now.volume c.args.viewed.now.view c.site-site.result c.site-site.ensures
    c.requires.clean c.requires.meant image told)

pub returns-clause-answer : goal.returns-clause-answer
returns-clause-answer g c =
    let bytes = g.S.BlockSource.bytes in
    let faults = g.S.BlockSource.faults in
    into_same (Export (target_asked c.args.target)) (looked bytes faults c.rows_at.new.src c.write_rows.new.src) (looked bytes faults c.args.src.now c.write_rows.new.src)
    (stored g.F.Folder.contents g.F.Folder.faults c.args.folder.now c.write_rows.new.folder) c.write_rows.result (sunk g.W.Sink.contents g.W.Sink.faults c.args.out.now c.write_rows.new.out)
    c.in-Ok.ensures.kept.same_bytes (rose_later (faults c.args.src.now) (faults c.rows_at.new.src) (faults c.write_rows.new.src) c.in-Ok.ensures.kept.later)
    c.write_rows.ensures.answer

pub returns-in-Err-clause-answer : goal.returns-in-Err-clause-answer
returns-in-Err-clause-answer g c =
    let command = Export (target_asked c.args.target) in
    let source = looked g.S.BlockSource.bytes g.S.BlockSource.faults c.args.src.now c.rows_at.new.src in
    unfilled command source (stored g.F.Folder.contents g.F.Folder.faults c.args.folder.now c.args.folder.now) c.in-Err.stopped (g.W.Sink.contents c.args.out.now) (g.W.Sink.faults c.args.out.now)
    (kept_store g.F.Folder.contents g.F.Folder.faults c.args.folder.now)
    (export_items_ended (target_asked c.args.target) source c.in-Err.stopped (g.W.Sink.contents c.args.out.now) (g.W.Sink.faults c.args.out.now)
    (λ image told.
    c.in-Err.ensures.free image told
    (lawful_at (target_asked c.args.target) source c.args.viewed.now.checkpoint c.args.viewed.now.volume c.args.viewed.now.view c.site-site.result c.site-site.ensures c.requires.clean c.requires.meant image told))
    c.in-Err.ensures.looking
    (λ (e : c.in-Err.stopped ≡ ReadFailed). c.in-Err.ensures.cause (ap (λ (s : Stopped). Err s) e)))
