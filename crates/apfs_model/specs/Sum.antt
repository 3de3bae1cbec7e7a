-- The sum of an object, by the closed formula (Objects, obj_phys_t, o_cksum).
use Rattle.std.specs.Prelude.{ℕ, ◌+◌, ◌-◌, ◌*◌, ◌/◌, ◌%◌, ◌^◌, List, [], ◌∷◌, length, map, sum}
use Rattle.std.specs.List.{range_with_len}
use Rattle.apfs_model.specs.Bytes.{u32_at}

-- the first n of the words that are summed, which follow the stored sum
abbrev pub first_words : List ℕ → ℕ → List ℕ
first_words bytes n = map (λ i. u32_at bytes (8 + 4 * i)) (range_with_len 0 n)

-- the words of an object that are summed: all but the stored sum
abbrev pub words : List ℕ → List ℕ
words bytes = first_words bytes ((length bytes - 8) / 4)

-- each word times its place from the end, the last being 1, and all added up
abbrev pub weighted : List ℕ → ℕ
weighted [] = 0
weighted (w ∷ ws) = (length ws + 1) * w + weighted ws

-- the greatest number of 32 bits, by which sums are taken
abbrev pub top : ℕ
top = 2 ^ 32 - 1

-- the number that is stored for a sum and a weighted sum
unfoldable pub stored_sum : ℕ → ℕ → ℕ
stored_sum plain weighted =
    let low = top - (plain + weighted) % top in
    let high = top - (plain + low) % top in
    high * 2 ^ 32 + low

-- the sum of an object
unfoldable pub sum_of : List ℕ → ℕ
sum_of bytes = stored_sum (sum (words bytes)) (weighted (words bytes))
