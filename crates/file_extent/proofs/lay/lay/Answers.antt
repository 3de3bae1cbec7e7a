use Rattle.std.proofs.Common.{◌++◌, ◌-◌, ◌∷◌, [], List, length, arith, ap, sym, subst, ◌∙◌}
use Rattle.std.specs.List.{slice_get}
use Rattle.fs_record.specs.declared.extents.FileExt.{FileExt}
use Rattle.file_extent.specs.Laid.{AreLaid}
use Rattle.file_extent.specs.Collected.{Follow}
use Rattle.file_extent.specs.declared.lay.Follows.TheVariants.{After, Over}
use Rattle.file_extent.proofs.Lays.{HasEnd, even-ends, last-ends, uneven, unplaced, overlapping, laid-more}
use Rattle.file_extent.proofs.lay.lay.Goals as goal

pub returns-then-not-is_even-clause-present : goal.returns-then-not-is_even-clause-present
returns-then-not-is_even-clause-present c = uneven c.args.site.now c.args.extents.now.items c.args.extent (sym c.if-not-is_even.ensures)

pub is_placed-requires-clause-fits : goal.is_placed-requires-clause-fits
is_placed-requires-clause-fits c =
    let end : HasEnd c.args.extent = even-ends c.args.site.now.block_size c.args.extent (sym c.if-not-is_even.ensures) in
    omega (arith, end.ends)

pub returns-then-not-is_placed-clause-present : goal.returns-then-not-is_placed-clause-present
returns-then-not-is_placed-clause-present c = unplaced c.args.site.now c.args.extents.now.items c.args.extent (sym c.if-not-is_placed.ensures)

pub follow-requires-clause-some : goal.follow-requires-clause-some
follow-requires-clause-some c = (even-ends c.args.site.now.block_size c.args.extent (sym c.if-not-is_even.ensures)).some

pub follow-requires-clause-ends : goal.follow-requires-clause-ends
follow-requires-clause-ends c = λ e at.
    let end = last-ends c.args.site.now c.args.extents.now.items (length c.deref.result.now - 1) e c.requires.laid (ap (λ (l : List FileExt). slice_get l (length c.deref.result.now - 1)) (sym c.deref.ensures.value) ∙ at) in
    (end.some, omega (arith, end.ends))

pub follow-requires-clause-end : goal.follow-requires-clause-end
follow-requires-clause-end c =
    let end : HasEnd c.args.extent = even-ends c.args.site.now.block_size c.args.extent (sym c.if-not-is_even.ensures) in
    omega (arith, end.ends)

pub returns-in_ok-push-in-After-clause-laid : goal.returns-in_ok-push-in-After-clause-laid
returns-in_ok-push-in-After-clause-laid c = λ more.
    let low = subst (λ (l : List FileExt). Follow l c.args.extent After) c.deref.ensures.value c.in-After.ensures in
    subst (AreLaid c.args.site.now) (sym c.in_ok-push-in-After.ensures.put)
    (laid-more c.args.site.now c.args.extents.now.items c.args.extent c.requires.laid (sym c.if-not-is_even.ensures) (sym c.if-not-is_placed.ensures) low)

pub returns-in-Over-clause-present : goal.returns-in-Over-clause-present
returns-in-Over-clause-present c = overlapping c.args.site.now (c.args.extents.now.items ++ c.args.extent ∷ []) (subst (λ (l : List FileExt). Follow l c.args.extent Over) c.deref.ensures.value c.in-Over.ensures)
