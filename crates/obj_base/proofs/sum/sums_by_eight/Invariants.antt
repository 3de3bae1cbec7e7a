use Rattle.std.proofs.Common.{◌≡◌, ◌+◌, ◌*◌, ◌≤◌, sum}
use Rattle.std.specs.Simd.Lanes.{sum_l}
use Rattle.apfs_model.specs.Sum.{weighted}
use Rattle.obj_base.specs.Words.{words_from}
use Rattle.obj_base.proofs.Lanes.{late}
use Rattle.obj_base.proofs.sum.sums_by_eight.Given as goal

abbrev pub invariant-steps : goal.invariant-steps
invariant-steps l = record {
  plain : sum_l l.plain ≡ sum (words_from l.bytes l.first (8 * l.step));
  weighted : 8 * sum_l l.weighted ≡ weighted (words_from l.bytes l.first (8 * l.step)) + late l.plain;
  plain_small : sum_l l.plain ≤ l.step * 34359738360;
  weighted_small : sum_l l.weighted ≤ l.step * 140737488322560;
}
