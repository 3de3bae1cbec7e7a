-- Where a walk along rows as they are told is.
use Rattle.std.specs.Prelude.{◌≡◌, ◌-◌, ◌++◌, ℕ, zero, suc, List, [], ◌∷◌, length, take}
use Rattle.path_search.specs.Paths.{slash}
use Rattle.path_search.specs.declared.target.Target.{Target}
use Rattle.view_tree.specs.declared.trail.Trail.{Trail}

-- the path of the last of n rows, with a slash after it, or what stands before the first
abbrev pub path_before : List ℕ → List (List ℕ × Target) → ℕ → List ℕ
path_before before rows zero = before
path_before before [] (suc n) = before
path_before before (row ∷ rows) (suc n) = path_before (row.0 ++ slash ∷ []) rows n

-- a trail has passed some of these rows
abbrev pub IsOn : List (List ℕ × Target) → Trail → Type 0
IsOn rows trail = trail.path.items ≡ path_before [] rows trail.passed

-- the path that a trail has, without the slash
abbrev pub path_of : Trail → List ℕ
path_of trail = take (length trail.path.items - 1) trail.path.items
