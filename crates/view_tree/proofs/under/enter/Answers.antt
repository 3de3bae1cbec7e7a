use Rattle.std.proofs.Common.{refl}
use Rattle.path_search.specs.Parts.{whats, targets_by}
use Rattle.view_tree.specs.Parts.{HasAll}
use Rattle.path_search.proofs.Listed.{children_told}
use Rattle.view_tree.proofs.under.enter.Goals as goal

pub returns-in-Err-clause-stops : goal.returns-in-Err-clause-stops
returns-in-Err-clause-stops c facts path first way entered memo =
    let all : HasAll facts c.args.id c.directory-run.result.entries.now = record { all = c.directory-run.ensures.all facts way.tells; each = c.directory-run.ensures.counted facts way.tells } in
    c.in-Err.ensures.stops facts path first way entered all (c.directory-run.ensures.kinds facts way.tells) memo

pub returns-clause-gives : goal.returns-clause-gives
returns-clause-gives c facts path first way entered memo =
    let all : HasAll facts c.args.id c.directory-run.result.entries.now = record { all = c.directory-run.ensures.all facts way.tells; each = c.directory-run.ensures.counted facts way.tells } in
    let sorted = c.sort_numbered.ensures (targets_by facts (whats c.directory-run.result.entries.now)) (c.in-Ok.ensures.gives facts path first way entered all (c.directory-run.ensures.kinds facts way.tells) memo) in
    children_told facts c.args.id (whats c.directory-run.result.entries.now) (targets_by facts (whats c.directory-run.result.entries.now)) _ (c.directory-run.ensures.all facts way.tells) refl sorted

pub returns-clause-kept : goal.returns-clause-kept
returns-clause-kept c facts path first way entered memo =
    let all : HasAll facts c.args.id c.directory-run.result.entries.now = record { all = c.directory-run.ensures.all facts way.tells; each = c.directory-run.ensures.counted facts way.tells } in
    c.in-Ok.ensures.kept facts path first way entered all (c.directory-run.ensures.kinds facts way.tells) memo

pub returns-clause-all : goal.returns-clause-all
returns-clause-all c facts path first way entered memo =
    let all : HasAll facts c.args.id c.directory-run.result.entries.now = record { all = c.directory-run.ensures.all facts way.tells; each = c.directory-run.ensures.counted facts way.tells } in
    c.in-Ok.ensures.all facts path first way entered all (c.directory-run.ensures.kinds facts way.tells) memo
