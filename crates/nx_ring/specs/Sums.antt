-- The sum of an object of which the bytes come in parts (Objects, obj_phys_t, o_cksum).
use Rattle.std.specs.Prelude.{◌≡◌, ℕ, ◌+◌, ◌-◌, ◌*◌, ◌/◌, ◌%◌, List, length, map, sum}
use Rattle.std.specs.List.{range_with_len}
use Rattle.apfs_model.specs.Bytes.{u32_at}
use Rattle.apfs_model.specs.Sum.{weighted, top}
use Rattle.nx_ring.specs.declared.running_sum.RunningSum.{RunningSum}

-- the first n words of some bytes from a place on
abbrev pub words_at : List ℕ → ℕ → ℕ → List ℕ
words_at bytes at n = map (λ i. u32_at bytes (at + 4 * i)) (range_with_len 0 n)

-- the words of some bytes from a place on
abbrev pub words_after : List ℕ → ℕ → List ℕ
words_after bytes at = words_at bytes at ((length bytes - at) / 4)

-- the two sums of some words, as remainders
pub record IsSumOf (running : RunningSum) (words : List ℕ) : Type 0 where
  pub plain : running.plain ≡ sum words % top
  pub weighted : running.weighted ≡ weighted words % top
