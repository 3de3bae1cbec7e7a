use Rattle.std.proofs.Common.{ℕ, take, get_or, sym, subst, arith}
use Rattle.std.proofs.lemmas.List.{take_more}
use Rattle.img_plan.specs.Files.{AddsStream, IsExtent}
use Rattle.img_plan.proofs.FilesSteps.{one_extent_more}
use Rattle.img_plan.proofs.files.FileTree.stream.Goals as goal

pub extents-preserved : goal.extents-preserved
extents-preserved c =
    let xs = c.args.extents.now in
    let i = c.extents.address-index in
    let none : ℕ × ℕ × ℕ = (0, 0, 0) in
    let here = get_or xs i none in
    let item = c.in_ok-file_extent.field-0 in
    let is_extent : IsExtent c.args.stream here item = record { key = c.in_ok-file_extent.ensures.key; value = c.in_ok-file_extent.ensures.value } in
    subst (λ l. AddsStream c.args.stream l c.args.self.now c.record-in-extents.new.self) (sym (take_more xs i none (omega arith)))
    (one_extent_more c.args.stream (take i xs) here item c.args.self.now c.extents.self c.record-in-extents.new.self c.extents.invariant c.in_ok-record-2.ensures.adds is_extent)
