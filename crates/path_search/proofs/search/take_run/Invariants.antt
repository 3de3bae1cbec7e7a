use Rattle.std.proofs.Common.{◌≡◌, ℕ, List, [], Some}
use Rattle.bt_cursor.specs.Cursors.{left_of, gapped_left_of, fuel_of}
use Rattle.path_search.specs.Stays.{Stays}
use Rattle.path_search.specs.Parts.{whats, is_wanted, run_entries, are_whole}
use Rattle.path_search.proofs.search.take_run.Given as goal

abbrev pub invariant-run : goal.invariant-run
invariant-run g l = record {
  stays : Stays g.S.BlockSource.bytes g.S.BlockSource.bytes_len g.S.BlockSource.faults l.fn.src l.src l.fn.cursor l.cursor;
  whole : (image : List ℕ) → g.S.BlockSource.bytes l.fn.src ≡ Some image → are_whole g.K.TreeKey.shape l.id (gapped_left_of l.fn.cursor image) ≡ are_whole g.K.TreeKey.shape l.id (gapped_left_of l.cursor image);
  taken : (image : List ℕ) → g.S.BlockSource.bytes l.fn.src ≡ Some image → run_entries g.K.TreeKey.shape l.names (is_wanted l.names l.wanted) l.id [] (left_of l.fn.cursor image) ≡ run_entries g.K.TreeKey.shape l.names (is_wanted l.names l.wanted) l.id (whats l.taken.items) (left_of l.cursor image);
}

abbrev pub decreases-run : goal.decreases-run
decreases-run g l = fuel_of l.cursor
