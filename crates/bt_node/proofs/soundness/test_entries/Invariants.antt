use Rattle.std.proofs.Common.{◌≡◌, true}
use Rattle.std.specs.List.{range_with_len, list_all}
use Rattle.bt_node.specs.Soundness.{is_entry_inside, has_value, has_key}
use Rattle.bt_node.proofs.soundness.test_entries.Given as goal

abbrev pub invariant-loop-i : goal.invariant-loop-i
invariant-loop-i g l = record {
  inside : list_all (is_entry_inside g.K.TreeKey.shape l.bytes) (range_with_len 0 l.i) ≡ true;
  valued : l.valued ≡ list_all (has_value g.K.TreeKey.shape l.bytes) (range_with_len 0 l.i);
  keyed : l.keyed ≡ list_all (has_key g.K.TreeKey.shape l.bytes) (range_with_len 0 l.i);
}
