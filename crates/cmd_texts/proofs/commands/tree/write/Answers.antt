-- The lines are put, or what stands in the way to the view, or in it, is told.
use Rattle.std.proofs.Common.{ap, List, ℕ, Err, refl}
use Rattle.cmd_words.specs.Asked.{AskedTarget}
use Rattle.cmd_words.specs.Lent.{target_asked}
use Rattle.obj_base.specs.declared.stop.Stop.{Stop}
use Rattle.view_tree.specs.Tree.{tree}
use Rattle.view_tree.specs.Texts.{tree_text}
use Rattle.path_search.specs.declared.stop.PathStop.{PathStop}
use Rattle.path_search.specs.declared.target.Target.{Target}
use Rattle.cmd_texts.specs.Commands.Tree as command
use Rattle.cmd_lines.specs.declared.words.Checks.TheVariants.{Quick}
use Rattle.cmd_lines.specs.Words.{Tree}
use Rattle.cmd_lines.specs.Written.{sunk}
use Rattle.cmd_texts.proofs.AtView.{IsAtView, way_stopped, list_put, list_stopped}
use Rattle.cmd_texts.proofs.OverViews.{tree_over}
use Rattle.cmd_texts.proofs.commands.tree.write.Goals as goal

pub returns-in-Err-clause-answer : goal.returns-in-Err-clause-answer
returns-in-Err-clause-answer g c =
    let target : AskedTarget = target_asked c.args.target in
    way_stopped g.S.BlockSource.bytes g.S.BlockSource.faults (Tree Quick target) (command.wanted target.path) (command.told target.path) target c.args.src.now c.reach_view.new.src c.in-Err.stopped
    (g.W.Sink.contents c.args.out.now) (g.W.Sink.faults c.args.out.now) (tree_over target) c.in-Err.ensures.way c.in-Err.ensures.looking c.in-Err.ensures.cause

pub returns-in-Ok-tree_rows-clause-answer : goal.returns-in-Ok-tree_rows-clause-answer
returns-in-Ok-tree_rows-clause-answer g c =
    let target : AskedTarget = target_asked c.args.target in
    let viewed = c.in-Ok.viewed in
    let at : IsAtView g.S.BlockSource.bytes g.S.BlockSource.faults target c.args.src.now c.reach_view.new.src viewed.checkpoint viewed.volume viewed.view c.site-site.result =
    record { site_is = c.site-site.ensures; meant = c.in-Ok.ensures.clear; same_bytes = c.in-Ok.ensures.kept.same_bytes; later = c.in-Ok.ensures.kept.later } in
    list_put g.S.BlockSource.bytes g.S.BlockSource.faults (Tree Quick target) (λ facts. tree facts target.path) tree_text (command.told target.path) target c.args.src.now c.reach_view.new.src c.tree_rows.new.src
    viewed.checkpoint viewed.volume viewed.view c.site-site.result c.in-Ok-tree_rows.rows c.put_rows.result (sunk g.W.Sink.contents g.W.Sink.faults c.args.out.now c.put_rows.new.out) (tree_over target) (c.in-Ok-tree_rows.rows, refl) at c.in-Ok-tree_rows.ensures.exact
    c.put_rows.ensures

pub returns-clause-answer : goal.returns-clause-answer
returns-clause-answer g c =
    let target : AskedTarget = target_asked c.args.target in
    let viewed = c.in-Ok.viewed in
    let at : IsAtView g.S.BlockSource.bytes g.S.BlockSource.faults target c.args.src.now c.reach_view.new.src viewed.checkpoint viewed.volume viewed.view c.site-site.result =
    record { site_is = c.site-site.ensures; meant = c.in-Ok.ensures.clear; same_bytes = c.in-Ok.ensures.kept.same_bytes; later = c.in-Ok.ensures.kept.later } in
    rw c.stopped_on_path.ensures
    (list_stopped g.S.BlockSource.bytes g.S.BlockSource.faults (Tree Quick target) (λ facts. tree facts target.path) tree_text (command.told target.path) target c.args.src.now c.reach_view.new.src c.tree_rows.new.src
    viewed.checkpoint viewed.volume viewed.view c.site-site.result (λ (rows : List (List ℕ × Target)). rows) c.in-Err-tree_rows.stop (g.W.Sink.contents c.args.out.now) (g.W.Sink.faults c.args.out.now) (tree_over target) at
    c.in-Err-tree_rows.ensures.exact c.in-Err-tree_rows.ensures.present (λ image given fault e. c.in-Err-tree_rows.ensures.told image given fault (ap (λ (s : Stop PathStop). Err s) e)) c.in-Err-tree_rows.ensures.cause)
