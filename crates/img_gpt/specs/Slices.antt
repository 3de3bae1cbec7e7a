-- A part of what a source tells.
use Rattle.std.specs.Prelude.{ℕ, List, Option, option_map}
use Rattle.apfs_model.specs.Bytes.{part_at}

-- so many bytes from a place on, where the bytes are told
abbrev pub sliced : ℕ → ℕ → Option (List ℕ) → Option (List ℕ)
sliced start length told = option_map (λ disk. part_at disk start length) told
