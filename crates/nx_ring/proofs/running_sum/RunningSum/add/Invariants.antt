use Rattle.std.proofs.Common.{◌≡◌, ◌+◌, ◌*◌, ◌≤◌, ◌^◌, ◌%◌, ◌++◌, ℕ, List, sum}
use Rattle.apfs_model.specs.Sum.{weighted, top}
use Rattle.nx_ring.specs.Sums.{words_at, IsSumOf}
use Rattle.nx_ring.proofs.running_sum.RunningSum.add.Given as goal

abbrev pub invariant-words : goal.invariant-words
invariant-words l = record {
  plain_small : l.plain ≤ (l.i + 1) * 2 ^ 32;
  weighted_small : l.weighted ≤ (l.i * 16385 + 1) * 2 ^ 32;
  plain : (words : List ℕ) → IsSumOf l.self words → l.plain % top ≡ sum (words ++ words_at l.bytes l.at l.i) % top;
  weighted : (words : List ℕ) → IsSumOf l.self words → l.weighted % top ≡ weighted (words ++ words_at l.bytes l.at l.i) % top;
}
