use Rattle.std.proofs.Common.{◌∙◌, Some, ap}
use Rattle.view_tree.specs.Trails.{path_of}
use Rattle.view_tree.specs.declared.kept.Row.{Row}
use Rattle.view_tree.proofs.Trails.{row_there}
use Rattle.view_tree.proofs.kept.go_below.Goals as goal

pub returns-clause-row : goal.returns-clause-row
returns-clause-row c =
    row_there c.args.rows.now c.args.place c.index-rows-place.result c.go_on.new.trail c.requires.low c.index-rows-place.is c.in_ok-go_on.ensures.passed c.in_ok-go_on.ensures.on ∙ ap (λ (r : Row). Some (path_of c.go_on.new.trail, r.target)) c.index-rows-place.is
