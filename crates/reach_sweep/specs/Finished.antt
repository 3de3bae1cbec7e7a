-- What is told of all that was gathered of a container.
use Rattle.std.specs.Prelude.{◌≡◌, ℕ, List, ◌++◌}
use Rattle.omap_map.specs.declared.records.OmapRecord.{OmapRecord}
use Rattle.space_map.specs.Stops.{Known}
use Rattle.reach_rules.specs.Reached.{Whole}
use Rattle.reach_rules.specs.Tally.{IsNumberOf}
use Rattle.reach_gather.specs.Held.{Held}
use Rattle.reach_gather.specs.Finished.{AreRangesOnce, IsObjectOf}
use Rattle.reach_sweep.specs.Composed.{HasRecords}

-- the owners of the records that views use were added to what was gathered; the ranges of all owners are told, and how many objects are
-- named by namings and by records, those by which the volumes are found among them; and the space and the pool's bits are these
pub record IsFinished (used found : List (ℕ × OmapRecord)) (parts : Held) (space : Known) (bits : List ℕ) (whole : Whole) : Type 0 where
  pub done : Held
  pub told : HasRecords used parts done
  pub ranges : AreRangesOnce done.owners whole.owners
  pub pool_ranges : AreRangesOnce done.pool_owners whole.pool_owners
  pub objects : IsNumberOf (IsObjectOf done.namings (used ++ found)) whole.objects
  pub space_is : whole.space ≡ space
  pub pool_is : whole.pool ≡ bits
