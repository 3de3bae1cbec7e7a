-- The lines are put. In a container that is well-formed nothing stops the folder's filling but a read that fails, a put into it that does, and want of memory.
use Rattle.std.proofs.Common.{ap, map, refl}
use Rattle.std.specs.Prelude.{◌++◌, Err, filter_map, slice_get}
use Rattle.std.specs.List.{flat_map}
use Rattle.cmd_words.specs.Lent.{target_asked}
use Rattle.view_rules.specs.Rules.{view_facts}
use Rattle.tree_export.specs.Exported.{item_of}
use Rattle.tree_export.specs.Texts.{skipped_text, done_text}
use Rattle.tree_export.proofs.Tellings.{told_text}
use Rattle.cmd_texts.specs.Handed.{looked, stored}
use Rattle.cmd_lines.specs.Written.{sunk}
use Rattle.cmd_texts.proofs.Exports.{IsAtItems, lawful_at, export_put_ended, export_stop_ended}
use Rattle.cmd_texts.proofs.commands.export.write_rows.Goals as goal

pub returns-in-Ok-clause-answer : goal.returns-in-Ok-clause-answer
returns-in-Ok-clause-answer g c =
    let target = target_asked c.args.target in
    let seen = c.args.viewed.now.checkpoint in
    let volume = c.args.viewed.now.volume in
    let view = c.args.viewed.now.view in
    let site = c.args.site.now in
    let items = map item_of c.args.rows.now in
    let done = c.in-Ok.done in
    let source = looked g.S.BlockSource.bytes g.S.BlockSource.faults c.args.src.now c.export.new.src in
    let folder = stored g.F.Folder.contents g.F.Folder.faults c.args.folder.now c.export.new.folder in
    let at : IsAtItems target source seen volume view site items = record { site_is = c.requires.site_is; clean = c.requires.clean; meant = c.requires.meant; items_are = c.requires.items } in
    let text = flat_map skipped_text (filter_map (slice_get items) done.skipped.items) ++ done_text done.directories done.files done.bytes in
    export_put_ended target source folder seen volume view site items text c.put_done.result (sunk g.W.Sink.contents g.W.Sink.faults c.args.out.now c.put_done.new.out) at
    c.in-Ok.ensures.filled
    (filter_map (slice_get items) done.skipped.items, done.directories, done.files, done.bytes, refl)
    (λ image told ordered. told_text site.block_size image (view_facts image site volume view) items done (c.requires.items image told) (c.in-Ok.ensures.done image told ordered))
    c.put_done.ensures

pub returns-in-Err-clause-answer : goal.returns-in-Err-clause-answer
returns-in-Err-clause-answer g c =
    let target = target_asked c.args.target in
    let seen = c.args.viewed.now.checkpoint in
    let volume = c.args.viewed.now.volume in
    let view = c.args.viewed.now.view in
    let site = c.args.site.now in
    let items = map item_of c.args.rows.now in
    let stop = c.in-Err.stop in
    let source = looked g.S.BlockSource.bytes g.S.BlockSource.faults c.args.src.now c.export.new.src in
    let folder = stored g.F.Folder.contents g.F.Folder.faults c.args.folder.now c.export.new.folder in
    let at : IsAtItems target source seen volume view site items = record { site_is = c.requires.site_is; clean = c.requires.clean; meant = c.requires.meant; items_are = c.requires.items } in
    rw c.stopped_in.ensures
    (export_stop_ended target source folder seen volume view site items view.slot view.xid stop (g.W.Sink.contents c.args.out.now) (g.W.Sink.faults c.args.out.now) at
    c.in-Err.ensures.filled
    (λ image told. c.in-Err.ensures.exact image told (lawful_at target source seen volume view site c.requires.site_is c.requires.clean c.requires.meant image told) (c.requires.items image told))
    (λ e. c.in-Err.ensures.read_cause (ap (λ s. Err s) e))
    (λ e. c.in-Err.ensures.write_cause (ap (λ s. Err s) e)))
