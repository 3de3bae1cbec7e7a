use Rattle.std.proofs.Common.{◌≡◌, ℕ, List, ◌-◌, length}
use Rattle.std.specs.Ordering.{nat_cmp}
use Rattle.std.specs.BTreeSet.{contains}
use Rattle.apfs_model.specs.Apart.{Apart}
use Rattle.apfs_model.specs.Lists.{In, has}
use Rattle.nx_ring.specs.Reading.{eph_ids}
use Rattle.reach_gather.proofs.Ways.{IsWay}
use Rattle.reach_gather.proofs.reaper_lists.reap.Given as goal

abbrev pub invariant-chain : goal.invariant-chain
invariant-chain l = record {
  way : (image : List ℕ) → IsWay image l.cp l.ids.items l.oid;
  apart : Apart l.ids.items;
  known : (k : ℕ) → In k l.ids.items → In k (eph_ids l.cp);
  held : (q : ℕ) → contains nat_cmp l.met q ≡ has l.ids.items q;
}

abbrev pub decreases-chain : goal.decreases-chain
decreases-chain l = length l.cp.mapped - length l.ids.items
