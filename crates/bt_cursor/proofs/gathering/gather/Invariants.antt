-- The items so far were gathered.
use Rattle.std.proofs.Common.{◌≡◌, ℕ, List}
use Rattle.apfs_model.specs.Kept.{IsKept}
use Rattle.bt_cursor.specs.Tree.{tree_in}
use Rattle.bt_cursor.specs.Liners.{site_of, root_of, tree_of, fuel_of}
use Rattle.bt_cursor.specs.Gathered.{HasTaken}
use Rattle.bt_cursor.proofs.gathering.gather.Given as goal

abbrev pub invariant-walk : goal.invariant-walk
invariant-walk g l = record {
  site : site_of l.liner ≡ l.site;
  root : root_of l.liner ≡ l.root;
  tree : tree_of l.liner ≡ tree_in g.K.TreeKey.shape l.site (g.N.Namer.named l.fn.namer);
  taken : HasTaken (g.S.BlockSource.bytes l.fn.src) (g.P.Keeper.holds l.keeper) g.P.Keeper.refuses l.number (g.S.BlockSource.reads l.fn.src) (g.S.BlockSource.reads l.src) l.liner;
  kept : IsKept g.S.BlockSource.bytes g.S.BlockSource.bytes_len g.S.BlockSource.faults l.fn.src l.src;
}

abbrev pub decreases-walk : goal.decreases-walk
decreases-walk g l = fuel_of l.liner
