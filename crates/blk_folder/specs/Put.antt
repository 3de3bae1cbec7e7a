-- What a folder has after some calls, where it tells its contents.
use Rattle.std.specs.Prelude.{◌≡◌, ◌⊎◌, ◌++◌, ℕ, List, [], ◌∷◌, Option, Some}
use Rattle.blk_folder.specs.Items.{Item, with_more, IsFront}

-- an item was added at the end
abbrev pub Added : Option (List Item) → Option (List Item) → Item → Type 0
Added old new item = (held : List Item) → old ≡ Some held → new ≡ Some (held ++ item ∷ [])

-- an item was added at the end, or nothing was
abbrev pub MayHaveAdded : Option (List Item) → Option (List Item) → Item → Type 0
MayHaveAdded old new item = (held : List Item) → old ≡ Some held → (new ≡ Some held) ⊎ (new ≡ Some (held ++ item ∷ []))

-- a piece was added at the end of the last item
abbrev pub Appended : Option (List Item) → Option (List Item) → List ℕ → Type 0
Appended old new piece = (held : List Item) → old ≡ Some held → new ≡ Some (with_more piece held)

-- a front of a piece was added at the end of the last item
abbrev pub AppendedPart : Option (List Item) → Option (List Item) → List ℕ → Type 0
AppendedPart old new piece = (held : List Item) → old ≡ Some held → (front : List ℕ) × (rest : List ℕ) × (piece ≡ front ++ rest) × (new ≡ Some (with_more front held))

-- all of some items were added
abbrev pub Filled : Option (List Item) → Option (List Item) → List Item → Type 0
Filled old new items = (held : List Item) → old ≡ Some held → new ≡ Some (held ++ items)

-- a front of some items was added
abbrev pub FilledPart : Option (List Item) → Option (List Item) → List Item → Type 0
FilledPart old new items = (held : List Item) → old ≡ Some held → (front : List Item) × IsFront front items × (new ≡ Some (held ++ front))
