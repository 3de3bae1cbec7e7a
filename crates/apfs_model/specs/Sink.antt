-- What a sink has after some puts, where it tells its contents.
use Rattle.std.specs.Prelude.{◌≡◌, ◌++◌, ℕ, List, Option, Some}

-- the whole text was put
abbrev pub Wrote : Option (List ℕ) → Option (List ℕ) → List ℕ → Type 0
Wrote old new text = (held : List ℕ) → old ≡ Some held → new ≡ Some (held ++ text)

-- a front of the text was put: all of it, a part or nothing
abbrev pub WrotePart : Option (List ℕ) → Option (List ℕ) → List ℕ → Type 0
WrotePart old new text = (held : List ℕ) → old ≡ Some held → (front : List ℕ) × (rest : List ℕ) × (text ≡ front ++ rest) × (new ≡ Some (held ++ front))
