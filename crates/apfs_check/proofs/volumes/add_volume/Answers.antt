use Rattle.std.proofs.Common.{◌≡◌, ◌∙◌, ◌+◌, length, ap, arith}
use Rattle.apfs_model.specs.Counts.{given}
use Rattle.nx_ring.specs.Checkpoint.{site_of}
use Rattle.vol_view.specs.Volumes.{Loaded}
use Rattle.vol_view.specs.Views.{views_of}
use Rattle.ext_ref.specs.Same.{HaveSame}
use Rattle.apfs_check.specs.Volumes.{volume_ranges, volume_extents}
use Rattle.apfs_check.proofs.Adding.{one-volume}
use Rattle.apfs_check.proofs.ViewSteps.{views-length}
use Rattle.apfs_check.proofs.volumes.add_volume.Goals as goal

pub returns-in-Err-clause-present : goal.returns-in-Err-clause-present
returns-in-Err-clause-present g c image told ready = c.in-Err.ensures.present c.args.profile image told ready

pub returns-in-Ok-add_data-clause-clear : goal.returns-in-Ok-add_data-clause-clear
returns-in-Ok-add_data-clause-clear g c image told ready =
    let seen = c.args.cp.now in
    let volume = c.args.volume.now in
    let after_ranges = c.volume_ranges.ensures.kept.same_bytes ∙ told in
    let ranges_are : c.deref.result.now ≡ volume_ranges image (site_of seen) volume.head = c.deref.ensures.value ∙ c.in-Ok.ensures.clear image told ready in
    let views = c.in-Ok-add_views.ensures.clear image after_ranges ready ranges_are in
    let ranges_too : c.deref-2.result.now ≡ volume_ranges image (site_of seen) volume.head = c.deref-2.ensures.value ∙ c.in-Ok.ensures.clear image told ready in
    let extents_are : HaveSame c.in-Ok-add_views.extents.items (volume_extents image seen volume.head) = c.in-Ok-add_views.ensures.all image after_ranges ready ranges_are in
    let held = c.add_views.new.out in
    let count : c.len.result + 1 ≡ length (views_of volume seen) = omega (arith, views-length volume seen, c.len.ensures, ap (λ (v : Loaded). length v.snaps) c.volume.view_is) in
    one-volume c.args.profile image seen volume c.args.out.now held c.count_views.new.self c.add_data.new.out ready.loaded.same views
    (c.count_views.ensures ∙ ap (λ n. record held { views = given (held.views + n) }) count) (c.in-Ok-add_data.ensures.clear image ready ranges_too extents_are)

pub returns-clause-present : goal.returns-clause-present
returns-clause-present g c image told ready =
    let seen = c.args.cp.now in
    let volume = c.args.volume.now in
    let after_ranges = c.volume_ranges.ensures.kept.same_bytes ∙ told in
    let ranges_are : c.deref.result.now ≡ volume_ranges image (site_of seen) volume.head = c.deref.ensures.value ∙ c.in-Ok.ensures.clear image told ready in
    let ranges_too : c.deref-2.result.now ≡ volume_ranges image (site_of seen) volume.head = c.deref-2.ensures.value ∙ c.in-Ok.ensures.clear image told ready in
    let extents_are : HaveSame c.in-Ok-add_views.extents.items (volume_extents image seen volume.head) = c.in-Ok-add_views.ensures.all image after_ranges ready ranges_are in
    c.in-Err-add_data.ensures.present image ready ranges_too extents_are

pub returns-in-Ok-add_data-clause-reads : goal.returns-in-Ok-add_data-clause-reads
returns-in-Ok-add_data-clause-reads g c image told = omega (arith, c.in-Ok.ensures.reads image told, c.in-Ok-add_views.ensures.reads image (c.volume_ranges.ensures.kept.same_bytes ∙ told))
