-- Items of two views in one ring.
use Rattle.std.specs.Prelude.{◌≡◌, ℕ, ◌-◌, ◌<◌, Bool, true, List, length, slice_index_or}

-- an item may stand behind some others
abbrev pub MayCome : {X : Type 0} → (X → X → Bool) → List X → X → Type 0
MayCome {X} follows xs x = (d : X) → 0 < length xs → follows (slice_index_or xs (length xs - 1) d) x ≡ true
