use Rattle.std.proofs.Common.{refl, sym, subst}
use Rattle.nx_ring.specs.Checkpoint.{site_of}
use Rattle.apfs_check.specs.Steps.{IsThere}
use Rattle.apfs_check.proofs.Adding.{view-added}
use Rattle.apfs_check.proofs.Stopped.{view-stops-at}
use Rattle.apfs_check.proofs.views.add_view.Goals as goal

pub returns-clause-clear : goal.returns-clause-clear
returns-clause-clear g c image told known ready same =
    let put = c.in_ok-put_view.ensures in
    let is = c.in-Ok.ensures.clear image told known in
    let checked = c.in-Ok.next.checked in
    view-added c.args.profile image c.args.cp.now (site_of c.args.cp.now) c.args.volume.now c.args.view.now c.args.ranges.now checked.tally.records checked.tally.notes.items c.args.out.now c.put_view.new.self ready refl same
    is.rules is.tally.records is.tally.notes
    (record { records_added = put.records; hashes = put.hashes; unnamed = put.unnamed; views_same = put.views; unreached_same = put.unreached; counts_same = put.counts })

pub returns-in-Err-clause-present : goal.returns-in-Err-clause-present
returns-in-Err-clause-present g c image told known ready same one =
    subst (IsThere c.args.profile image) (sym c.stop_of.ensures)
    (view-stops-at c.args.profile image c.args.cp.now (site_of c.args.cp.now) c.args.volume.now c.args.ranges.now ready refl same c.args.view.now one c.in-Err.stop (c.in-Err.ensures.present image told known))

pub returns-clause-reads : goal.returns-clause-reads
returns-clause-reads g c image told known = c.in-Ok.ensures.reads image told known
