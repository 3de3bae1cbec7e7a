use Rattle.std.proofs.Common.{◌≡◌, ◌+◌, ◌≤◌, true, map, take, refl, sym, subst}
use Rattle.fs_record.specs.StreamExtents.{extent_end, is_extent_even, are_extents_ordered}
use Rattle.fs_record.specs.declared.extents.FileExt.{FileExt}
use Rattle.plain_change.proofs.Appended.{what, EndBy, ordered-more, ends-more}
use Rattle.plain_change.proofs.extents.are_in_order.Goals as goal

pub loop-f-init : goal.loop-f-init
unfolding are_extents_ordered
loop-f-init c = (refl, λ x none. absurd none)

pub loop-f-preserved : goal.loop-f-preserved
loop-f-preserved c =
    let size = c.args.block_size in
    let run = c.args.run.now in
    let i = c.loop-f.f-index in
    let f = c.f-item.result in
    let e : c.extent-extent.result ≡ f.what = c.extent-extent.ensures in
    let even : is_extent_even size f.what ≡ true = subst (λ (x : FileExt). is_extent_even size x ≡ true) e (c.is_next.ensures.even c.if-not-is_next.false) in
    let behind : c.loop-f.end ≤ f.what.logical = subst (λ (x : FileExt). c.loop-f.end ≤ x.logical) e (c.is_next.ensures.behind c.if-not-is_next.false) in (
      ordered-more size run i c.loop-f.end f c.loop-f-test.true c.f-item.is c.loop-f.invariant.0 c.loop-f.invariant.1 even behind,
      subst (λ (x : FileExt). EndBy (extent_end x) (map what (take (i + 1) run))) (sym e) (ends-more run i c.loop-f.end f c.loop-f-test.true c.f-item.is c.loop-f.invariant.1 behind),
    )
