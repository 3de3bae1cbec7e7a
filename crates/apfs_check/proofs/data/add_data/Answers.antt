use Rattle.std.proofs.Common.{◌≡◌, ◌∙◌, ◌++◌, ℕ, List, map, ap, subst}
use Rattle.obj_base.specs.Stops.{Tells, NoFeature}
use Rattle.obj_base.specs.declared.site.Site.{Site}
use Rattle.fs_record.specs.declared.extents.FileExt.{FileExt}
use Rattle.vol_view.specs.Volumes.{Loaded}
use Rattle.ext_ref.specs.Unreached.{unreached_runs}
use Rattle.view_rules.specs.declared.profile.Profile.TheVariants.{Strict}
use Rattle.apfs_check.specs.Data.{unreached_in, miscounted_in}
use Rattle.apfs_check.specs.DataSteps.{IsRunFault, IsCountFault, wrong_note, wrong_in}
use Rattle.apfs_check.specs.Held.{unless_strict}
use Rattle.apfs_check.specs.Notes.{unreached_note}
use Rattle.apfs_check.proofs.DataTold.{runs-same, counted_in, wrong-same, runs-stop, counts-stop, data-added}
use Rattle.apfs_check.proofs.data.add_data.Goals as goal

pub returns-in-Err-clause-present : goal.returns-in-Err-clause-present
returns-in-Err-clause-present c image ready p q =
    let seen = c.args.cp.now in
    let volume = c.args.volume.now in
    let runs_are : c.deref-2.result.now ≡ unreached_in image seen volume.head =
    c.deref-2.ensures.value ∙ (c.in_ok-runs.ensures ∙ (ap (λ (s : Site). unreached_runs s.block_size c.args.ranges.now c.args.extents.items) c.site-site.ensures ∙ runs-same image seen volume.head c.args.ranges.now c.args.extents.items p q)) in
    runs-stop c.args.profile image seen volume ready c.deref-2.result.now runs_are c.in-Err.stop
    (subst (λ (v : Loaded). Tells (λ fault. (c.args.profile ≡ Strict) × IsRunFault v.head.slot c.deref-2.result.now fault) NoFeature c.in-Err.stop) c.volume.view_is c.in-Err.ensures.present)

pub returns-in-Ok-tell_counts-clause-clear : goal.returns-in-Ok-tell_counts-clause-clear
returns-in-Ok-tell_counts-clause-clear c image ready p q =
    let seen = c.args.cp.now in
    let volume = c.args.volume.now in
    let runs_are : c.deref-2.result.now ≡ unreached_in image seen volume.head =
    c.deref-2.ensures.value ∙ (c.in_ok-runs.ensures ∙ (ap (λ (s : Site). unreached_runs s.block_size c.args.ranges.now c.args.extents.items) c.site-site.ensures ∙ runs-same image seen volume.head c.args.ranges.now c.args.extents.items p q)) in
    let wrong_are : c.deref-3.result.now ≡ map (counted_in image seen volume.head) (miscounted_in image seen volume.head) =
    c.deref-3.ensures.value ∙ (c.in_ok-wrong.ensures ∙ (ap (λ (es : List (ℕ × FileExt)). wrong_in volume c.site-site.result.block_size c.args.ranges.now es) c.deref.ensures.value ∙ (ap (λ (s : Site). wrong_in volume s.block_size c.args.ranges.now c.args.extents.items) c.site-site.ensures ∙ wrong-same image seen volume c.args.ranges.now c.args.extents.items ready p q))) in
    let before = c.args.out.now in
    let between = c.tell_runs.new.out in
    data-added c.args.profile image seen volume c.deref-2.result.now c.deref-3.result.now before between c.tell_counts.new.out runs_are wrong_are c.in-Ok.ensures.none c.in-Ok-tell_counts.ensures.none
    (c.in-Ok.ensures.added ∙ ap (λ (v : Loaded). record before { unreached = before.unreached ++ unless_strict c.args.profile (map (unreached_note v.head) c.deref-2.result.now) }) c.volume.view_is)
    (c.in-Ok-tell_counts.ensures.added ∙ ap (λ (v : Loaded). record between { counts = between.counts ++ unless_strict c.args.profile (map (wrong_note v.head.slot) c.deref-3.result.now) }) c.volume.view_is)

pub returns-clause-present : goal.returns-clause-present
returns-clause-present c image ready p q =
    let seen = c.args.cp.now in
    let volume = c.args.volume.now in
    let wrong_are : c.deref-3.result.now ≡ map (counted_in image seen volume.head) (miscounted_in image seen volume.head) =
    c.deref-3.ensures.value ∙ (c.in_ok-wrong.ensures ∙ (ap (λ (es : List (ℕ × FileExt)). wrong_in volume c.site-site.result.block_size c.args.ranges.now es) c.deref.ensures.value ∙ (ap (λ (s : Site). wrong_in volume s.block_size c.args.ranges.now c.args.extents.items) c.site-site.ensures ∙ wrong-same image seen volume c.args.ranges.now c.args.extents.items ready p q))) in
    counts-stop c.args.profile image seen volume ready c.deref-3.result.now wrong_are c.in-Err-tell_counts.stop
    (subst (λ (v : Loaded). Tells (λ fault. (c.args.profile ≡ Strict) × IsCountFault v.head.slot c.deref-3.result.now fault) NoFeature c.in-Err-tell_counts.stop) c.volume.view_is c.in-Err-tell_counts.ensures.present)
