use Rattle.std.proofs.Common.{◌≡◌, [], ap, sym, ◌∙◌}
use Rattle.std.proofs.lemmas.Iterator.Adapters.{YieldsList-from_vec}
use Rattle.std.proofs.lemmas.Iterator.Consumers.{YieldsList-end}
use Rattle.std.proofs.lemmas.List.{map-id}
use Rattle.view_tree.specs.Kept.{told_rows}
use Rattle.view_tree.proofs.RowsKept.{row_told, row_path}
use Rattle.view_tree.proofs.kept.told_below.Goals as goal

pub returns-clause-told : goal.returns-clause-told
returns-clause-told c =
    let items = c.args.rows.items in
    let given = c.into_iter-row-iterator.ensures.into_iter_gives in
    let all = YieldsList-end (YieldsList-from_vec {s = c.into_iter-row-iterator.result} items given.0 (given.1 ∙ c.args.rows.ok.0)) c.rows.yielded c.rows.row-iterator c.rows.yielded_by _ c.next.new.self c.in-None.is c.next.ensures.steps in
    let same : c.rows.yielded ≡ items = sym (map-id c.rows.yielded) ∙ all.0 in
    c.rows.invariant.told ∙ ap (told_rows []) same

pub rows-preserved-in-Ok : goal.rows-preserved-in-Ok
rows-preserved-in-Ok c = record {
  told = row_told c.rows.yielded c.in-Some.row c.rows.path.items c.rows.told.items c.tell.new.told.items c.rows.invariant.told c.rows.invariant.path c.in-Ok.ensures.told;
  path = row_path c.rows.yielded c.in-Some.row c.rows.path.items c.tell.new.path.items c.rows.invariant.path c.in-Ok.ensures.path;
}

pub rows-preserved : goal.rows-preserved
rows-preserved c = record {
  told = row_told c.rows.yielded c.in-Some.row c.rows.path.items c.rows.told.items c.tell.new.told.items c.rows.invariant.told c.rows.invariant.path c.in-Ok.ensures.told;
  path = row_path c.rows.yielded c.in-Some.row c.rows.path.items c.tell.new.path.items c.rows.invariant.path c.in-Ok.ensures.path;
}
