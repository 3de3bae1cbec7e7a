-- A folder that has the directory "d", and gets the file "d/f" with the bytes "hello".
use Rattle.std.proofs.Common.{◌≡◌, ℕ, List, [], ◌∷◌, ◌++◌, Option, Some, inl, inr, refl, ap}
use Rattle.std.specs.Prelude.{codes, option_map}
use Rattle.blk_folder.specs.Items.{Held, Item, directory_at, file_at, byte_count, with_more}
use Rattle.blk_folder.specs.Put.{Added, MayHaveAdded, Appended, AppendedPart, Filled}

abbrev d : Item
d = directory_at (codes "d")

abbrev f : List ℕ → Item
f bytes = file_at (codes "d/f") bytes

-- how many bytes stand at a path
abbrev size : Held → ℕ
size held = byte_count held

no_bytes : size d.held ≡ 0
no_bytes = refl

bytes : size (f (codes "hello")).held ≡ 5
bytes = refl

-- what is in the folder, with some items more
abbrev with_items : List Item → Option (List Item) → Option (List Item)
with_items items had = option_map (λ held. held ++ items) had

-- ---- the file is begun; where that fails it may not be there
begun : Added (Some (d ∷ [])) (Some (d ∷ f [] ∷ [])) (f [])
begun held e = ap (with_items (f [] ∷ [])) e

not_begun : MayHaveAdded (Some (d ∷ [])) (Some (d ∷ [])) (f [])
not_begun held e = inl e

begun_too : MayHaveAdded (Some (d ∷ [])) (Some (d ∷ f [] ∷ [])) (f [])
begun_too held e = inr (begun held e)

-- ---- bytes are added to it; where that fails a front of them may be there
appended : Appended (Some (d ∷ f (codes "he") ∷ [])) (Some (d ∷ f (codes "hello") ∷ [])) (codes "llo")
appended held e = ap (λ (had : Option (List Item)). option_map (with_more (codes "llo")) had) e

cut_short : AppendedPart (Some (d ∷ f (codes "he") ∷ [])) (Some (d ∷ f (codes "hell") ∷ [])) (codes "llo")
cut_short held e = (codes "ll", codes "o", refl, ap (λ (had : Option (List Item)). option_map (with_more (codes "ll")) had) e)

-- ---- both items are put into a folder that was empty
filled : Filled (Some []) (Some (d ∷ f (codes "hello") ∷ [])) (d ∷ f (codes "hello") ∷ [])
filled held e = ap (with_items (d ∷ f (codes "hello") ∷ [])) e
