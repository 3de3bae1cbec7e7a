-- Lists of the same items.
use Rattle.std.specs.Prelude.{◌↔◌, List}
use Rattle.apfs_model.specs.Lists.{In}

-- two lists have the same items, however often and in whatever order they stand
abbrev pub HaveSame : {X : Type 0} → List X → List X → Type 0
HaveSame {X} xs ys = (x : X) → In x xs ↔ In x ys
