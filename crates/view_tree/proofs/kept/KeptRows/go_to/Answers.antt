use Rattle.std.proofs.Common.{◌≡◌, ◌∙◌, [], length, ap, sym, arith}
use Rattle.view_tree.specs.Kept.{told_rows, held_told}
use Rattle.view_tree.proofs.RowsKept.{told_length}
use Rattle.view_tree.proofs.kept.KeptRows.go_to.Goals as goal

pub go_below-requires-clause-low : goal.go_below-requires-clause-low
go_below-requires-clause-low c =
    let same : length (told_rows [] c.in-Below.rows.items) ≡ length c.args.self.now = ap length (sym (ap held_told c.in-Below.is) ∙ c.self.view_is) in
    rw c.deref.ensures.value (omega (arith, same, told_length [] c.in-Below.rows.items))
