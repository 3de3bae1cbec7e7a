use Rattle.std.proofs.Common.{◌∙◌, ◌+◌, ◌-◌, ◌≤◌, List, ◌++◌, length, map, sym, ap, subst}
use Rattle.std.specs.Prelude.{min, sum}
use Rattle.apfs_model.specs.Counts.{given}
use Rattle.nx_block.specs.Super.{slots}
use Rattle.nx_ring.specs.Checkpoint.{site_of}
use Rattle.vol_view.specs.Volumes.{Loaded}
use Rattle.reach_sweep.specs.Views.{head_of}
use Rattle.apfs_check.specs.Held.{AddsVolumes}
use Rattle.apfs_check.specs.Notes.{skipped_notes}
use Rattle.apfs_check.specs.Reads.{volume_reads, check_reads}
use Rattle.apfs_check.specs.Report.{Told}
use Rattle.apfs_check.specs.Steps.{AreReady}
use Rattle.apfs_check.proofs.Checked.{checked}
use Rattle.apfs_check.proofs.Law.{check-free}
use Rattle.apfs_check.proofs.Spent.{check-within}
use Rattle.apfs_check.proofs.checking.check.Goals as goal

-- where the newest checkpoint isn't found
pub returns-in-Err-clause-present : goal.returns-in-Err-clause-present
returns-in-Err-clause-present g c image told = c.in-Err.ensures.present c.args.profile image told

pub returns-in-Err-clause-exact : goal.returns-in-Err-clause-exact
returns-in-Err-clause-exact g c image told right = check-free c.args.profile image c.in-Err.stop right (returns-in-Err-clause-present g c image told)

-- where a volume isn't loaded
pub returns-in-Err-volumes_of-clause-present : goal.returns-in-Err-volumes_of-clause-present
returns-in-Err-volumes_of-clause-present g c image told =
    c.in-Err-volumes_of.ensures.present c.args.profile image (c.newest_checkpoint.ensures.kept.same_bytes ∙ told) (c.in-Ok.ensures.clear image told)

pub returns-in-Err-volumes_of-clause-exact : goal.returns-in-Err-volumes_of-clause-exact
returns-in-Err-volumes_of-clause-exact g c image told right = check-free c.args.profile image c.in-Err-volumes_of.stop right (returns-in-Err-volumes_of-clause-present g c image told)

-- where the account fails
pub returns-in-Err-tally_of-clause-present : goal.returns-in-Err-tally_of-clause-present
returns-in-Err-tally_of-clause-present g c image told =
    let first = c.newest_checkpoint.ensures.kept.same_bytes ∙ told in
    let are = c.in-Ok-volumes_of.ensures.clear image first (c.in-Ok.ensures.clear image told) in
    c.in-Err-tally_of.ensures.present c.args.profile image (c.volumes_of.ensures.kept.same_bytes ∙ first) (subst (AreReady image c.in-Ok.cp) (sym c.deref.ensures.value) are)

pub returns-in-Err-tally_of-clause-exact : goal.returns-in-Err-tally_of-clause-exact
returns-in-Err-tally_of-clause-exact g c image told right = check-free c.args.profile image c.in-Err-tally_of.stop right (returns-in-Err-tally_of-clause-present g c image told)

-- where a volume isn't right
pub returns-in-Err-add_volumes-clause-present : goal.returns-in-Err-add_volumes-clause-present
returns-in-Err-add_volumes-clause-present g c image told =
    let first = c.newest_checkpoint.ensures.kept.same_bytes ∙ told in
    let second = c.volumes_of.ensures.kept.same_bytes ∙ first in
    let are = c.in-Ok-volumes_of.ensures.clear image first (c.in-Ok.ensures.clear image told) in
    c.in-Err-add_volumes.ensures.present image (c.tally_of.ensures.kept.same_bytes ∙ second) (subst (AreReady image c.in-Ok.cp) (sym c.deref-2.ensures.value) are)

pub returns-in-Err-add_volumes-clause-exact : goal.returns-in-Err-add_volumes-clause-exact
returns-in-Err-add_volumes-clause-exact g c image told right = check-free c.args.profile image c.in-Err-add_volumes.stop right (returns-in-Err-add_volumes-clause-present g c image told)

-- where all is right
pub returns-in-Ok-report-clause-clear : goal.returns-in-Ok-report-clause-clear
returns-in-Ok-report-clause-clear g c image told =
    let profile = c.args.profile in
    let seen = c.in-Ok.cp in
    let first = c.newest_checkpoint.ensures.kept.same_bytes ∙ told in
    let second = c.volumes_of.ensures.kept.same_bytes ∙ first in
    let are = c.in-Ok-volumes_of.ensures.clear image first (c.in-Ok.ensures.clear image told) in
    let tallied : AreReady image seen c.deref.result.now = subst (AreReady image seen) (sym c.deref.ensures.value) are in
    let third = c.tally_of.ensures.kept.same_bytes ∙ second in
    let added : AreReady image seen c.deref-2.result.now = subst (AreReady image seen) (sym c.deref-2.ensures.value) are in
    let volumes = c.in-Ok-volumes_of.volumes.items in
    let tally = c.in-Ok-tally_of.tally in
    let held = c.add_volumes.new.out in
    let adds : AddsVolumes profile image seen (map head_of volumes) c.new-gathered.result held =
    subst (λ (vs : List Loaded). AddsVolumes profile image seen (map head_of vs) c.new-gathered.result held) c.deref-2.ensures.value (c.in-Ok-add_volumes.ensures.clear image third added) in
    checked profile image seen volumes tally.objects tally.owned held c.in-Ok-report.report are (c.in-Ok-tally_of.ensures.clear image second tallied) (c.in-Ok-tally_of.ensures.tally image second tallied)
    (subst (λ old. AddsVolumes profile image seen (map head_of volumes) old held) c.new-gathered.ensures adds)
    (c.in-Ok-report.ensures
    ∙ ap (λ (vs : List Loaded). record {
      xid = seen.line.xid;
      volumes = min (length vs) slots;
      views = given held.views;
      objects = tally.objects;
      records = given held.records;
      used = tally.owned;
      free = (site_of seen).blocks - tally.owned;
      notes = skipped_notes seen ++ (held.hashes ++ (held.unreached ++ (held.unnamed ++ held.counts)));
    }) c.deref-3.ensures.value)

pub returns-in-Ok-report-clause-reads : goal.returns-in-Ok-report-clause-reads
returns-in-Ok-report-clause-reads g c image manager other told named has =
    let reads = g.S.BlockSource.reads in
    let seen = c.in-Ok.cp in
    let first = c.newest_checkpoint.ensures.kept.same_bytes ∙ told in
    let second = c.volumes_of.ensures.kept.same_bytes ∙ first in
    let are = c.in-Ok-volumes_of.ensures.clear image first (c.in-Ok.ensures.clear image told) in
    let tallied : AreReady image seen c.deref.result.now = subst (AreReady image seen) (sym c.deref.ensures.value) are in
    let third = c.tally_of.ensures.kept.same_bytes ∙ second in
    let volumes = c.in-Ok-volumes_of.volumes.items in
    let tally = c.in-Ok-tally_of.tally in
    subst (λ n. reads c.add_volumes.new.src ≤ reads c.args.src.now + check_reads image other manager n) (sym (ap (λ (t : Told). t.objects) c.in-Ok-report.ensures))
    (check-within image manager seen other tally.objects volumes (reads c.args.src.now) (reads c.newest_checkpoint.new.src) (reads c.volumes_of.new.src) (reads c.tally_of.new.src) (reads c.add_volumes.new.src) named has are (c.newest_checkpoint.ensures.reads image told)
    (c.in-Ok-volumes_of.ensures.reads image first) (λ managed. c.in-Ok-tally_of.ensures.reads image second tallied manager managed)
    (subst (λ (vs : List Loaded). reads c.add_volumes.new.src ≤ reads c.tally_of.new.src + sum (map (volume_reads image seen) vs)) c.deref-2.ensures.value (c.in-Ok-add_volumes.ensures.reads image third)))
