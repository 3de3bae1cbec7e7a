-- Lists in which nothing stands twice.
use Rattle.std.specs.Prelude.{List, [], ◌∷◌}
use Rattle.apfs_model.specs.Lists.{In}

-- no item stands twice in a list
abbrev pub Apart : {X : Type 0} → List X → Type 0
Apart [] = Unit {0}
Apart (x ∷ xs) = (In x xs → ⊥) × Apart xs
