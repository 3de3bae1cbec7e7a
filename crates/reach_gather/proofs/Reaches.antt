-- Once all is gathered, all is reached.
use Rattle.std.proofs.Common.{ℕ, List, map, refl, sym, subst}
use Rattle.std.specs.List.{flat_map}
use Rattle.apfs_model.specs.Lists.{Lists}
use Rattle.nx_ring.specs.Checkpoint.{Seen}
use Rattle.reach_rules.specs.declared.owner.Owner.{Owner}
use Rattle.reach_rules.specs.Owners.{IsOwner}
use Rattle.reach_rules.specs.PoolOwners.{pool_owners_through, IsPoolOwner}
use Rattle.reach_rules.specs.Reached.{range_of, AreRangesOf}
use Rattle.reach_rules.specs.Tally.{IsObjectCount}
use Rattle.reach_gather.specs.Ranges.{joined_owners}
use Rattle.reach_gather.specs.Gathered.{AreOwnersOf, GatheredReaches}
use Rattle.reach_gather.proofs.ViewParts.{joined-tells}
use Rattle.reach_gather.proofs.Account.{account-told}
use Rattle.reach_gather.proofs.RangesTold.{ranges-told}

-- owners of which a list is known, by those of them that have a block
ranges-by : (P : Owner → Type 0) (these those : List Owner) → Lists those P → AreOwnersOf these those → AreRangesOf P (map range_of these)
ranges-by P these those l a = record {
  owners = these;
  lists = (
    (λ x h. record { one = l.0 x (a.there x h); some = a.some x h }),
    (λ x h. a.all x (l.1 x h.one) h.some),
  );
  apart = a.apart;
  same = refl;
}

pub gathered-reaches : (image : List ℕ) (seen : Seen) → GatheredReaches image seen
gathered-reaches image seen all views records owners pool_owners objects whole g =
    let told = joined-tells image seen all views records g.joined in
    let account = account-told image seen in
    record {
      names = account.names all views records g.joined g.covered;
      trees = account.trees all views records g.joined g.trees;
      plain = account.plain all views records g.joined g.plain;
      shaped = g.shaped;
      objects = subst (IsObjectCount image seen) (sym g.count) ((ranges-told image seen).objects all views records objects g.joined g.objects_are.apart g.objects_are.there g.objects_are.all);
      owners = subst (AreRangesOf (IsOwner image seen)) (sym g.ranges) (ranges-by (IsOwner image seen) owners (joined_owners image seen all records) told.owners g.owners_are);
      pool_owners = subst (AreRangesOf (IsPoolOwner image seen)) (sym g.pool_ranges) (ranges-by (IsPoolOwner image seen) pool_owners (flat_map (pool_owners_through image seen) all) told.pool_owners g.pool_owners_are);
      placed = g.placed;
      space = g.space;
      pool = g.pool;
    }
