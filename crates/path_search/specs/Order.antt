-- Lists by name.
use Rattle.std.specs.Prelude.{ℕ, Bool, List, [], ◌∷◌, if◌then◌else◌}
use Rattle.std.specs.Ordering.{nat_cmp, is_gt}
use Rattle.std.specs.Cmp.Lexicographic.{slice_cmp}

-- an item's name comes after another's: the first bytes that differ decide, and otherwise the longer one comes after
abbrev pub is_after : {X : Type 0} → (X → List ℕ) → X → X → Bool
is_after name x y = is_gt (slice_cmp nat_cmp (name x) (name y))

-- a list by name with one more item, which stands before those of its own name
abbrev pub put_in : {X : Type 0} → (X → List ℕ) → X → List X → List X
put_in name x [] = x ∷ []
put_in name x (y ∷ ys) = if is_after name x y then y ∷ put_in name x ys else x ∷ y ∷ ys

-- a list by name, the items of one name as they were
abbrev pub by_name : {X : Type 0} → (X → List ℕ) → List X → List X
by_name name [] = []
by_name name (x ∷ xs) = put_in name x (by_name name xs)
