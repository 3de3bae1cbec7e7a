-- Ranges of blocks that lie one after the other.
use Rattle.std.specs.Prelude.{◌≡◌, ℕ, ◌+◌, ◌<◌, ◌≤◌, List, [], ◌∷◌}
use Rattle.std.specs.List.{sum_by}
use Rattle.apfs_model.specs.Lists.{In}
use Rattle.reach_rules.specs.Settled.{is_held}

-- ranges lie between two blocks, one after the other
abbrev pub AreInOrder : ℕ → ℕ → List (ℕ × ℕ) → Type 0
AreInOrder from to [] = from ≤ to
AreInOrder from to (range ∷ ranges) = (from ≤ range.0) × AreInOrder (range.0 + range.1) to ranges

-- the first block of a range
abbrev pub first_of : ℕ × ℕ → ℕ
first_of range = range.0

-- how many blocks ranges have that lie one after the other
abbrev pub blocks_in : List (ℕ × ℕ) → ℕ
blocks_in ranges = sum_by (λ (range : ℕ × ℕ). range.1) ranges

-- each range has a block
abbrev pub HaveBlocks : List (ℕ × ℕ) → Type 0
HaveBlocks ranges = (range : ℕ × ℕ) → In range ranges → 0 < range.1

-- from a block on the same blocks lie in some ranges as in others
abbrev pub AreAlikeFrom : ℕ → List (ℕ × ℕ) → List (ℕ × ℕ) → Type 0
AreAlikeFrom first some others = (block : ℕ) → first ≤ block → is_held some block ≡ is_held others block
