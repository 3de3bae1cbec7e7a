use Rattle.std.proofs.Common.{◌≡◌, ◌∙◌, [], length, ap, sym, arith}
use Rattle.view_tree.specs.Kept.{told_rows, held_told}
use Rattle.view_tree.proofs.RowsKept.{told_length}
use Rattle.view_tree.proofs.kept.KeptRows.len.Goals as goal

pub returns-in-Below : goal.returns-in-Below
returns-in-Below c =
    let same : length (told_rows [] c.in-Below.rows.items) ≡ length c.args.self.now = ap length (sym (ap held_told c.in-Below.is) ∙ c.self.view_is) in
    omega (arith, same, told_length [] c.in-Below.rows.items)
