use Rattle.std.proofs.Common.{◌∙◌, ◌<◌, ◌++◌, ◌∷◌, ℕ, List, [], length, ap, arith}
use Rattle.path_search.specs.Paths.{slash}
use Rattle.view_tree.proofs.Trails.{on_next}
use Rattle.view_tree.proofs.kept.go_on.Goals as goal

pub rows-preserved : goal.rows-preserved
rows-preserved c =
    let low : c.rows.trail.passed < length c.args.rows.now = omega arith in
    record {
      on = on_next c.args.rows.now c.rows.trail.passed c.index-rows-trail.result c.rows.trail.path.items c.push.new.self.items low c.index-rows-trail.is c.rows.invariant.on (c.in_ok-push.ensures.items ∙ ap (λ (p : List ℕ). p ++ slash ∷ []) c.in_ok-lead.ensures);
      low = omega arith;
    }
