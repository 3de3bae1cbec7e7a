use Rattle.std.proofs.Common.{◌≡◌, ◌+◌, ◌≤◌, length, arith}
use Rattle.reach_gather.proofs.Pasts.{snapshot-adds}
use Rattle.reach_gather.specs.Volumes.Told.{super_in_view}
use Rattle.reach_gather.proofs.Noted.{noted-one}
use Rattle.reach_gather.proofs.snapshots.add_snapshot.Goals as goal

pub returns-in-Ok-clause-clear : goal.returns-in-Ok-clause-clear
returns-in-Ok-clause-clear g c = λ image told part.
    snapshot-adds image c.args.cp.now c.args.view c.args.snapshot.now c.args.out.now c.note_block.new.self c.add_kept_extents.new.out part
    c.in_ok-note_block.ensures.namings c.in_ok-note_block.ensures.owners c.note_block.ensures.pool_owners (c.in-Ok.ensures.clear image told)

pub returns-in-Ok-clause-reads : goal.returns-in-Ok-clause-reads
returns-in-Ok-clause-reads g c = λ image told.
    let one : length c.note_block.new.self.namings ≡ length c.args.out.now.namings + 1 = noted-one c.args.out.now.namings c.note_block.new.self.namings (super_in_view c.args.view c.args.snapshot.now) c.in_ok-note_block.ensures.namings in
    let more : g.S.BlockSource.reads c.add_kept_extents.new.src + length c.note_block.new.self.namings ≤ g.S.BlockSource.reads c.args.src.now + length c.add_kept_extents.new.out.namings = c.in-Ok.ensures.reads image told in
    omega (arith, one, more)
