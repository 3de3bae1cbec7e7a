-- Words of runs of bytes, by place.
use Rattle.std.specs.Prelude.{ℕ, ◌+◌, ◌*◌, List, map}
use Rattle.std.specs.List.{range_with_len}
use Rattle.apfs_model.specs.Bytes.{u64_at}

-- the eight words of 64 bits in the 64 bytes from a place on
abbrev pub eight_words : List ℕ → ℕ → List ℕ
eight_words bytes at = map (λ j. u64_at bytes (at + 8 * j)) (range_with_len 0 8)
