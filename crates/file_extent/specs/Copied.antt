-- What a copy has put on a sink.
use Rattle.std.specs.Prelude.{◌≡◌, ◌++◌, ℕ, List, Option, Some, Result, Ok, Err}
use Rattle.apfs_model.specs.Sink.{Wrote}

-- the sink keeps what it had and has one part more: the text of the image, where the source tells that
abbrev pub CopiedWhole : Option (List ℕ) → Option (List ℕ) → Option (List ℕ) → (List ℕ → List ℕ) → Type 0
CopiedWhole old new told text = (part : List ℕ) × Wrote old new part × ((image : List ℕ) → told ≡ Some image → part ≡ text image)

-- the sink keeps what it had and has one part more: a front of the text of the image, where the source tells that
abbrev pub CopiedFront : Option (List ℕ) → Option (List ℕ) → Option (List ℕ) → (List ℕ → List ℕ) → Type 0
CopiedFront old new told text =
    (part : List ℕ) × Wrote old new part × ((image : List ℕ) → told ≡ Some image → (rest : List ℕ) × (text image ≡ part ++ rest))

-- the sink has the whole text more, or after an error a front of it; one part of which this is said on every source
abbrev pub Copied : {E : Type 0} → Option (List ℕ) → Option (List ℕ) → Option (List ℕ) → (List ℕ → List ℕ) → Result (Unit {0}) E → Type 0
Copied old new told text (Ok done) = CopiedWhole old new told text
Copied old new told text (Err stop) = CopiedFront old new told text
