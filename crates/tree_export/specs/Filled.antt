-- What a folder has after a call that puts items into it.
use Rattle.std.specs.Prelude.{◌≡◌, ℕ, List, Option, Some, Result, Ok, Err}
use Rattle.blk_folder.specs.Items.{Item, IsFront}
use Rattle.blk_folder.specs.Put.{Filled}
use Rattle.tree_export.specs.Safe.{AreSafe}

-- the folder keeps what it had and has some items more: those that are wanted, where the source tells its bytes and a fact of them holds; whatever it tells, their paths stay in the folder
abbrev pub FilledWhole : Option (List Item) → Option (List Item) → Option (List ℕ) → (List ℕ → Type 0) → (List ℕ → List Item) → Type 0
FilledWhole old new told sound wanted = (added : List Item) × Filled old new added × ((image : List ℕ) → told ≡ Some image → sound image → added ≡ wanted image) × AreSafe added

-- it has a front of them more, of whose last, a file, a front of the bytes may be there
abbrev pub FilledFront : Option (List Item) → Option (List Item) → Option (List ℕ) → (List ℕ → Type 0) → (List ℕ → List Item) → Type 0
FilledFront old new told sound wanted = (added : List Item) × Filled old new added × ((image : List ℕ) → told ≡ Some image → sound image → IsFront added (wanted image)) × AreSafe added

-- it has all of them more, or after an error a front
abbrev pub HasFilled : {T E : Type 0} → Option (List Item) → Option (List Item) → Option (List ℕ) → (List ℕ → Type 0) → (List ℕ → List Item) → Result T E → Type 0
HasFilled old new told sound wanted (Ok value) = FilledWhole old new told sound wanted
HasFilled old new told sound wanted (Err stop) = FilledFront old new told sound wanted
