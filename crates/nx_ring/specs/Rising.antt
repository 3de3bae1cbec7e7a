-- Lists of numbers of which each is below the next.
use Rattle.std.specs.Prelude.{ℕ, ◌+◌, ◌<◌, ◌≤◌, List, length, slice_index}

-- each number is below the next
abbrev pub Rises : List ℕ → Type 0
Rises xs = (k : ℕ) → k + 1 < length xs → slice_index xs k < slice_index xs (k + 1)

-- a number isn't below the next
abbrev pub Halts : List ℕ → Type 0
Halts xs = (k : ℕ) × ((k + 1 < length xs) × (slice_index xs (k + 1) ≤ slice_index xs k))
