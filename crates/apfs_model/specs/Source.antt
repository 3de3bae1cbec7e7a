-- What a source gives, and what it keeps.
use Rattle.std.specs.Prelude.{◌≡◌, ℕ, ◌+◌, List, length, slice_range}

-- a part of the image from a place on, as long as it is
abbrev pub Copies : List ℕ → ℕ → List ℕ → Type 0
Copies image at part = part ≡ slice_range image at (at + length part)
