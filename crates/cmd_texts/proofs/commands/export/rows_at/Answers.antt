-- The rows are those of the tree, where there is one.
use Rattle.std.proofs.Common.{◌∙◌, ℕ, List, ap, map}
use Rattle.std.proofs.lemmas.Result.{IfErr-weaker, IfOk-weaker}
use Rattle.view_rules.specs.Rules.{view_facts}
use Rattle.path_search.specs.declared.target.Target.{Target}
use Rattle.tree_export.specs.Exported.{item_of}
use Rattle.tree_export.proofs.Tellings.{rows_items}
use Rattle.cmd_texts.proofs.Exports.{free_stop, no_root_items}
use Rattle.cmd_texts.proofs.commands.export.rows_at.Goals as goal

pub returns-in-Ok-clause-found : goal.returns-in-Ok-clause-found
returns-in-Ok-clause-found g c image told lawful =
    rows_items (view_facts image c.args.site.now c.args.viewed.now.volume c.args.viewed.now.view) c.in-Ok.rows (c.in-Ok.ensures.exact image told lawful)

pub returns-in-Err-clause-found : goal.returns-in-Err-clause-found
returns-in-Err-clause-found g c image told lawful =
    IfOk-weaker c.rows_without.result _ _
    (λ rows none. ap (map item_of) none.0 ∙ no_root_items (λ (rows : List (List ℕ × Target)). rows) (view_facts image c.args.site.now c.args.viewed.now.volume c.args.viewed.now.view) c.in-Err.stop (c.in-Err.ensures.exact image told lawful) none.1)
    c.rows_without.ensures.none

pub returns-in-Err-clause-free : goal.returns-in-Err-clause-free
returns-in-Err-clause-free g c image told lawful =
    IfErr-weaker c.rows_without.result _ _
    (λ stopped is. rw is.0 (free_stop (λ (rows : List (List ℕ × Target)). rows) _ c.in-Err.stop (c.in-Err.ensures.exact image told lawful) is.1))
    c.rows_without.ensures.stopped
