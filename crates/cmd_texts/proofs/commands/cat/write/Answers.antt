-- The contents are written, or what stands in the way to the view, or in it, is told.
use Rattle.std.proofs.Common.{refl}
use Rattle.cmd_words.specs.Asked.{AskedTarget}
use Rattle.cmd_words.specs.Lent.{target_asked}
use Rattle.cmd_texts.specs.Commands.Cat as command
use Rattle.cmd_lines.specs.declared.words.Checks.TheVariants.{Quick}
use Rattle.cmd_lines.specs.Words.{Cat}
use Rattle.cmd_lines.specs.Written.{sunk}
use Rattle.cmd_texts.proofs.AtView.{IsAtView, way_stopped}
use Rattle.cmd_texts.proofs.Contents.{contents_written, writing_stopped}
use Rattle.cmd_texts.proofs.OverViews.{cat_over}
use Rattle.cmd_texts.proofs.commands.cat.write.Goals as goal

pub returns-in-Err-clause-answer : goal.returns-in-Err-clause-answer
returns-in-Err-clause-answer g c =
    let target : AskedTarget = target_asked c.args.target in
    way_stopped g.S.BlockSource.bytes g.S.BlockSource.faults (Cat Quick target) (command.wanted target.path) (command.told target.path) target c.args.src.now c.reach_view.new.src c.in-Err.stopped
    (g.W.Sink.contents c.args.out.now) (g.W.Sink.faults c.args.out.now) (cat_over target) c.in-Err.ensures.way c.in-Err.ensures.looking c.in-Err.ensures.cause

pub returns-in-Ok-cat-clause-answer : goal.returns-in-Ok-cat-clause-answer
returns-in-Ok-cat-clause-answer g c =
    let target : AskedTarget = target_asked c.args.target in
    let viewed = c.in-Ok.viewed in
    let at : IsAtView g.S.BlockSource.bytes g.S.BlockSource.faults target c.args.src.now c.reach_view.new.src viewed.checkpoint viewed.volume viewed.view c.site-site.result =
    record { site_is = c.site-site.ensures; meant = c.in-Ok.ensures.clear; same_bytes = c.in-Ok.ensures.kept.same_bytes; later = c.in-Ok.ensures.kept.later } in
    contents_written g.S.BlockSource.bytes g.S.BlockSource.faults (Cat Quick target) (command.wanted target.path) (command.told target.path) target c.args.src.now c.reach_view.new.src c.cat.new.src
    viewed.checkpoint viewed.volume viewed.view c.site-site.result (sunk g.W.Sink.contents g.W.Sink.faults c.args.out.now c.cat.new.out) (cat_over target) (record { streams_is = refl; formed = λ text. tt }) at c.in-Ok-cat.ensures.text

pub returns-clause-answer : goal.returns-clause-answer
returns-clause-answer g c =
    let target : AskedTarget = target_asked c.args.target in
    let viewed = c.in-Ok.viewed in
    let at : IsAtView g.S.BlockSource.bytes g.S.BlockSource.faults target c.args.src.now c.reach_view.new.src viewed.checkpoint viewed.volume viewed.view c.site-site.result =
    record { site_is = c.site-site.ensures; meant = c.in-Ok.ensures.clear; same_bytes = c.in-Ok.ensures.kept.same_bytes; later = c.in-Ok.ensures.kept.later } in
    rw c.stopped_on_write.ensures
    (writing_stopped g.S.BlockSource.bytes g.S.BlockSource.faults (Cat Quick target) (command.wanted target.path) (command.told target.path) target c.args.src.now c.reach_view.new.src c.cat.new.src
    viewed.checkpoint viewed.volume viewed.view c.site-site.result c.in-Err-cat.stop (sunk g.W.Sink.contents g.W.Sink.faults c.args.out.now c.cat.new.out) (cat_over target) (record { streams_is = refl; formed = λ text. tt }) at
    c.in-Err-cat.ensures.text c.in-Err-cat.ensures.untouched c.in-Err-cat.ensures.exact c.in-Err-cat.ensures.present (λ facts fault. tt) c.in-Err-cat.ensures.read_cause c.in-Err-cat.ensures.write_cause)
