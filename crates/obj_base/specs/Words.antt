-- Words of an object, by place and number.
use Rattle.std.specs.Prelude.{ℕ, ◌+◌, ◌*◌, List, map}
use Rattle.std.specs.List.{range_with_len}
use Rattle.apfs_model.specs.Bytes.{u32_at}

-- so many of the words that are summed, from one of them on
abbrev pub words_from : List ℕ → ℕ → ℕ → List ℕ
words_from bytes first n = map (λ i. u32_at bytes (8 + 4 * i)) (range_with_len first n)
