-- Once each call has said what it does, all is reached.
use Rattle.std.proofs.Common.{ℕ, List, subst}
use Rattle.nx_ring.specs.Checkpoint.{Seen}
use Rattle.omap_map.specs.declared.records.OmapRecord.{OmapRecord}
use Rattle.reach_rules.specs.declared.naming.Naming.{Naming}
use Rattle.reach_rules.specs.Tally.{IsNumberOf}
use Rattle.reach_gather.proofs.Reaches.{gathered-reaches}
use Rattle.reach_gather.specs.Finished.{IsObjectOf}
use Rattle.reach_sweep.specs.Composed.{records_used, AreCallsReached, PartsCompose}
use Rattle.reach_sweep.proofs.Added.{parts-added, held-same}
use Rattle.reach_sweep.proofs.Joined.{joined-by}
use Rattle.reach_sweep.proofs.Covered.{covered-by}
use Rattle.reach_sweep.proofs.Records.{records-by}
use Rattle.reach_sweep.proofs.Lives.{held-live, views-live, used-by, unused-present}
use Rattle.reach_sweep.proofs.MapsOf.{maps-by}
use Rattle.reach_sweep.proofs.Owners.{owners-by, pool-owners-by, objects-by}
use Rattle.reach_sweep.proofs.Pooled.{placed-by}
use Rattle.reach_sweep.proofs.Swept.{views-are}

calls-reached : (image : List ℕ) (seen : Seen) → AreCallsReached image seen
calls-reached image seen heads rest first used all_used those maps start parts done whole c =
    let all : List Naming = parts.namings in
    let records : List (ℕ × OmapRecord) = records_used used in
    let same = held-same image seen c.added.these start parts c.start_is c.added.grew in
    let joined = joined-by image seen rest first used start parts c.start_is c.added c.once c.rest_is c.first_is c.reached in
    let owners = owners-by image seen rest records start parts done whole.owners c.start_is c.added c.told c.ranges in
    let pool_owners = pool-owners-by image seen rest records start parts done whole.pool_owners c.start_is c.added c.told c.pool_ranges in
    let counted : IsNumberOf (IsObjectOf all those) whole.objects = subst (λ (ns : List Naming). IsNumberOf (IsObjectOf ns those) whole.objects) c.told.namings c.objects in
    let objects = objects-by image seen all first records those whole.objects joined c.records_are counted in
    gathered-reaches image seen all first records owners.owners pool_owners.owners objects.objects whole (record {
      joined = joined;
      covered = covered-by image seen heads all records those maps all_used c.has c.listed c.all_are_used c.among c.records_are;
      trees = λ n kind h e. c.added.trees n kind (same.back n h) e;
      plain = c.plain;
      owners_are = owners.are;
      pool_owners_are = pool_owners.are;
      objects_are = objects.are;
      shaped = c.shaped;
      count = objects.same;
      ranges = owners.same;
      pool_ranges = pool_owners.same;
      placed = c.placed;
      space = c.space;
      pool = c.pool;
    })

pub parts-compose : (image : List ℕ) (seen : Seen) → PartsCompose image seen
parts-compose image seen = record {
  added = parts-added image seen;
  joined = joined-by image seen;
  covered = covered-by image seen;
  records = records-by image seen;
  held_live = held-live image seen;
  views_live = views-live image seen;
  used = used-by image seen;
  maps = maps-by image seen;
  unused = unused-present image seen;
  owners = owners-by image seen;
  pool_owners = pool-owners-by image seen;
  placed = placed-by image seen;
  objects = objects-by image seen;
  reached = calls-reached image seen;
  views = views-are image seen;
}
