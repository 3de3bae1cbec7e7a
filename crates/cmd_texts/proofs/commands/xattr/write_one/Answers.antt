-- The contents are written, or what stands in the way to the view, or in it, is told.
use Rattle.std.proofs.Common.{List, ℕ, Some, refl}
use Rattle.cmd_words.specs.Asked.{AskedTarget}
use Rattle.cmd_words.specs.Lent.{target_asked}
use Rattle.cmd_texts.specs.Commands.Xattr as command
use Rattle.cmd_lines.specs.declared.words.Checks.TheVariants.{Quick}
use Rattle.cmd_lines.specs.Words.{Xattr}
use Rattle.cmd_lines.specs.Written.{sunk}
use Rattle.cmd_texts.proofs.AtView.{IsAtView, way_stopped}
use Rattle.cmd_texts.proofs.Contents.{contents_written, writing_stopped}
use Rattle.cmd_texts.proofs.OverViews.{xattr_over}
use Rattle.cmd_texts.proofs.commands.xattr.write_one.Goals as goal

pub returns-in-Err-clause-answer : goal.returns-in-Err-clause-answer
returns-in-Err-clause-answer g c =
    let target : AskedTarget = target_asked c.args.target in
    let name : List ℕ = c.args.name.now in
    way_stopped g.S.BlockSource.bytes g.S.BlockSource.faults (Xattr Quick target (Some name)) (command.wanted target.path (Some name)) (command.told target.path) target c.args.src.now c.reach_view.new.src c.in-Err.stopped
    (g.W.Sink.contents c.args.out.now) (g.W.Sink.faults c.args.out.now) (xattr_over target (Some name)) c.in-Err.ensures.way c.in-Err.ensures.looking c.in-Err.ensures.cause

pub returns-in-Ok-attr-clause-answer : goal.returns-in-Ok-attr-clause-answer
returns-in-Ok-attr-clause-answer g c =
    let target : AskedTarget = target_asked c.args.target in
    let name : List ℕ = c.args.name.now in
    let viewed = c.in-Ok.viewed in
    let at : IsAtView g.S.BlockSource.bytes g.S.BlockSource.faults target c.args.src.now c.reach_view.new.src viewed.checkpoint viewed.volume viewed.view c.site-site.result =
    record { site_is = c.site-site.ensures; meant = c.in-Ok.ensures.clear; same_bytes = c.in-Ok.ensures.kept.same_bytes; later = c.in-Ok.ensures.kept.later } in
    contents_written g.S.BlockSource.bytes g.S.BlockSource.faults (Xattr Quick target (Some name)) (command.wanted target.path (Some name)) (command.told target.path) target c.args.src.now c.reach_view.new.src c.attr.new.src
    viewed.checkpoint viewed.volume viewed.view c.site-site.result (sunk g.W.Sink.contents g.W.Sink.faults c.args.out.now c.attr.new.out) (xattr_over target (Some name)) (record { streams_is = refl; formed = λ text. tt }) at c.in-Ok-attr.ensures.text

pub returns-clause-answer : goal.returns-clause-answer
returns-clause-answer g c =
    let target : AskedTarget = target_asked c.args.target in
    let name : List ℕ = c.args.name.now in
    let viewed = c.in-Ok.viewed in
    let at : IsAtView g.S.BlockSource.bytes g.S.BlockSource.faults target c.args.src.now c.reach_view.new.src viewed.checkpoint viewed.volume viewed.view c.site-site.result =
    record { site_is = c.site-site.ensures; meant = c.in-Ok.ensures.clear; same_bytes = c.in-Ok.ensures.kept.same_bytes; later = c.in-Ok.ensures.kept.later } in
    rw c.stopped_on_write.ensures
    (writing_stopped g.S.BlockSource.bytes g.S.BlockSource.faults (Xattr Quick target (Some name)) (command.wanted target.path (Some name)) (command.told target.path) target c.args.src.now c.reach_view.new.src c.attr.new.src
    viewed.checkpoint viewed.volume viewed.view c.site-site.result c.in-Err-attr.stop (sunk g.W.Sink.contents g.W.Sink.faults c.args.out.now c.attr.new.out) (xattr_over target (Some name)) (record { streams_is = refl; formed = λ text. tt }) at
    c.in-Err-attr.ensures.text c.in-Err-attr.ensures.untouched c.in-Err-attr.ensures.exact c.in-Err-attr.ensures.present (λ facts fault. tt) c.in-Err-attr.ensures.read_cause c.in-Err-attr.ensures.write_cause)
