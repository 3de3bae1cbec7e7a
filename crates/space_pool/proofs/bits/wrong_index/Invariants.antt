use Rattle.std.proofs.Common.{◌≡◌, ◌<◌, ℕ, true, false, length, get_or}
use Rattle.std.specs.List.{list_all, range_with_len}
use Rattle.apfs_model.specs.Lists.{has}
use Rattle.space_pool.specs.Bits.{first_indexes, is_pool_index}
use Rattle.space_pool.proofs.bits.wrong_index.Given as goal

abbrev pub invariant-loop-i : goal.invariant-loop-i
invariant-loop-i l = record {
  long : length l.marks.items ≡ 65536;
  marked : (k : ℕ) → k < 65536 → get_or l.marks.items k false ≡ has (first_indexes l.manager l.i) k;
  right : list_all (is_pool_index l.manager) (range_with_len 0 l.i) ≡ true;
}
