-- The lines are put, or what stands in the way to the view, or in it, is told.
use Rattle.std.proofs.Common.{List, ℕ, None, Vec, Global, refl}
use Rattle.cmd_words.specs.Asked.{AskedTarget}
use Rattle.cmd_words.specs.Lent.{target_asked}
use Rattle.path_read.specs.Attributes.{attributes}
use Rattle.path_read.specs.Texts.{xattr_text}
use Rattle.cmd_texts.specs.Commands.Xattr as command
use Rattle.cmd_lines.specs.declared.words.Checks.TheVariants.{Quick}
use Rattle.cmd_lines.specs.Words.{Xattr}
use Rattle.cmd_lines.specs.Written.{sunk}
use Rattle.cmd_texts.proofs.AtView.{IsAtView, way_stopped, list_put, list_stopped}
use Rattle.cmd_texts.proofs.OverViews.{xattr_over}
use Rattle.cmd_texts.proofs.commands.xattr.write_all.Goals as goal

pub returns-in-Err-clause-answer : goal.returns-in-Err-clause-answer
returns-in-Err-clause-answer g c =
    let target : AskedTarget = target_asked c.args.target in
    way_stopped g.S.BlockSource.bytes g.S.BlockSource.faults (Xattr Quick target None) (command.wanted target.path None) (command.told target.path) target c.args.src.now c.reach_view.new.src c.in-Err.stopped
    (g.W.Sink.contents c.args.out.now) (g.W.Sink.faults c.args.out.now) (xattr_over target None) c.in-Err.ensures.way c.in-Err.ensures.looking c.in-Err.ensures.cause

pub returns-in-Ok-attrs-clause-answer : goal.returns-in-Ok-attrs-clause-answer
returns-in-Ok-attrs-clause-answer g c =
    let target : AskedTarget = target_asked c.args.target in
    let viewed = c.in-Ok.viewed in
    let at : IsAtView g.S.BlockSource.bytes g.S.BlockSource.faults target c.args.src.now c.reach_view.new.src viewed.checkpoint viewed.volume viewed.view c.site-site.result =
    record { site_is = c.site-site.ensures; meant = c.in-Ok.ensures.clear; same_bytes = c.in-Ok.ensures.kept.same_bytes; later = c.in-Ok.ensures.kept.later } in
    list_put g.S.BlockSource.bytes g.S.BlockSource.faults (Xattr Quick target None) (λ facts. attributes facts target.path) xattr_text (command.told target.path) target c.args.src.now c.reach_view.new.src c.attrs.new.src
    viewed.checkpoint viewed.volume viewed.view c.site-site.result c.in-Ok-attrs.items.items c.put_lines.result (sunk g.W.Sink.contents g.W.Sink.faults c.args.out.now c.put_lines.new.out) (xattr_over target None) (c.in-Ok-attrs.items.items, refl) at c.in-Ok-attrs.ensures.exact
    (rw c.as_slice.ensures.value at c.put_lines.ensures)

pub returns-clause-answer : goal.returns-clause-answer
returns-clause-answer g c =
    let target : AskedTarget = target_asked c.args.target in
    let viewed = c.in-Ok.viewed in
    let at : IsAtView g.S.BlockSource.bytes g.S.BlockSource.faults target c.args.src.now c.reach_view.new.src viewed.checkpoint viewed.volume viewed.view c.site-site.result =
    record { site_is = c.site-site.ensures; meant = c.in-Ok.ensures.clear; same_bytes = c.in-Ok.ensures.kept.same_bytes; later = c.in-Ok.ensures.kept.later } in
    rw c.stopped_on_path.ensures
    (list_stopped g.S.BlockSource.bytes g.S.BlockSource.faults (Xattr Quick target None) (λ facts. attributes facts target.path) xattr_text (command.told target.path) target c.args.src.now c.reach_view.new.src c.attrs.new.src
    viewed.checkpoint viewed.volume viewed.view c.site-site.result (λ (rows : Vec (List ℕ × ℕ) Global). rows.items) c.in-Err-attrs.stop (g.W.Sink.contents c.args.out.now) (g.W.Sink.faults c.args.out.now) (xattr_over target None) at
    c.in-Err-attrs.ensures.exact c.in-Err-attrs.ensures.present (λ image given fault e. tt) c.in-Err-attrs.ensures.cause)
