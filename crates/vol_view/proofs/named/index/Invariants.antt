use Rattle.std.proofs.Common.{◌≡◌, ◌≤◌, true, length, map, drop}
use Rattle.apfs_model.specs.Lists.{are_distinct}
use Rattle.vol_view.specs.Named.{IsIndex, named_by}
use Rattle.vol_view.proofs.named.index.Given as goal

abbrev pub invariant-records : goal.invariant-records
invariant-records g l = record {
  inside : l.i ≤ length l.records;
  found : IsIndex (map (named_by g.T.Named.name_of g.T.Named.xid_of) (drop l.i l.records)) l.index;
  once : are_distinct (map g.T.Named.name_of (drop l.i l.records)) ≡ true;
}

abbrev pub decreases-records : goal.decreases-records
decreases-records g l = l.i
