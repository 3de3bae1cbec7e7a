-- The lines are put, or what stands in the way to the view, or in it, is told.
use Rattle.std.proofs.Common.{Vec, Global, refl}
use Rattle.cmd_words.specs.Asked.{AskedTarget}
use Rattle.cmd_words.specs.Lent.{target_asked}
use Rattle.path_search.specs.Listing.{listing}
use Rattle.path_search.specs.Texts.{ls_text}
use Rattle.path_search.specs.declared.target.Target.{Target}
use Rattle.cmd_texts.specs.Commands.Ls as command
use Rattle.cmd_lines.specs.declared.words.Checks.TheVariants.{Quick}
use Rattle.cmd_lines.specs.Words.{Ls}
use Rattle.cmd_lines.specs.Written.{sunk}
use Rattle.cmd_texts.proofs.AtView.{IsAtView, way_stopped, list_put, list_stopped}
use Rattle.cmd_texts.proofs.OverViews.{ls_over}
use Rattle.cmd_texts.proofs.commands.ls.write.Goals as goal

pub returns-in-Err-clause-answer : goal.returns-in-Err-clause-answer
returns-in-Err-clause-answer g c =
    let target : AskedTarget = target_asked c.args.target in
    way_stopped g.S.BlockSource.bytes g.S.BlockSource.faults (Ls Quick target) (command.wanted target.path) (command.told target.path) target c.args.src.now c.reach_view.new.src c.in-Err.stopped
    (g.W.Sink.contents c.args.out.now) (g.W.Sink.faults c.args.out.now) (ls_over target) c.in-Err.ensures.way c.in-Err.ensures.looking c.in-Err.ensures.cause

pub returns-in-Ok-list_kept-clause-answer : goal.returns-in-Ok-list_kept-clause-answer
returns-in-Ok-list_kept-clause-answer g c =
    let target : AskedTarget = target_asked c.args.target in
    let viewed = c.in-Ok.viewed in
    let at : IsAtView g.S.BlockSource.bytes g.S.BlockSource.faults target c.args.src.now c.reach_view.new.src viewed.checkpoint viewed.volume viewed.view c.site-site.result =
    record { site_is = c.site-site.ensures; meant = c.in-Ok.ensures.clear; same_bytes = c.in-Ok.ensures.kept.same_bytes; later = c.in-Ok.ensures.kept.later } in
    list_put g.S.BlockSource.bytes g.S.BlockSource.faults (Ls Quick target) (λ facts. listing facts target.path) ls_text (command.told target.path) target c.args.src.now c.reach_view.new.src c.list_kept.new.src
    viewed.checkpoint viewed.volume viewed.view c.site-site.result c.in-Ok-list_kept.items.items c.put_lines.result (sunk g.W.Sink.contents g.W.Sink.faults c.args.out.now c.put_lines.new.out) (ls_over target) (c.in-Ok-list_kept.items.items, refl) at c.in-Ok-list_kept.ensures.exact
    (rw c.as_slice.ensures.value at c.put_lines.ensures)

pub returns-clause-answer : goal.returns-clause-answer
returns-clause-answer g c =
    let target : AskedTarget = target_asked c.args.target in
    let viewed = c.in-Ok.viewed in
    let at : IsAtView g.S.BlockSource.bytes g.S.BlockSource.faults target c.args.src.now c.reach_view.new.src viewed.checkpoint viewed.volume viewed.view c.site-site.result =
    record { site_is = c.site-site.ensures; meant = c.in-Ok.ensures.clear; same_bytes = c.in-Ok.ensures.kept.same_bytes; later = c.in-Ok.ensures.kept.later } in
    rw c.stopped_on_path.ensures
    (list_stopped g.S.BlockSource.bytes g.S.BlockSource.faults (Ls Quick target) (λ facts. listing facts target.path) ls_text (command.told target.path) target c.args.src.now c.reach_view.new.src c.list_kept.new.src
    viewed.checkpoint viewed.volume viewed.view c.site-site.result (λ (rows : Vec Target Global). rows.items) c.in-Err-list_kept.stop (g.W.Sink.contents c.args.out.now) (g.W.Sink.faults c.args.out.now) (ls_over target) at
    c.in-Err-list_kept.ensures.exact c.in-Err-list_kept.ensures.present (λ image given fault e. tt) c.in-Err-list_kept.ensures.cause)
