-- How a folder in memory keeps its items: in one text, of each item the path and then the bytes, up to where the next one begins.
use Rattle.std.specs.Prelude.{◌≡◌, ◌≤◌, ℕ, zero, suc, Bool, true, List, [], ◌∷◌, length, slice_range, if◌then◌else◌}
use Rattle.std.specs.Str.{is_utf8}
use Rattle.blk_folder.specs.Items.{Item, Held, Directory, File}
use Rattle.blk_folder.specs.declared.memory.Place.{Place}

-- a file of these bytes, or a directory
abbrev pub held_as : Bool → List ℕ → Held
held_as is_file bytes = if is_file then File bytes else Directory

-- the item of a place that ends at a byte of the text
abbrev pub item_to : List ℕ → Place → ℕ → Item
item_to text place end = record {
  path = slice_range text place.start place.path_end;
  held = held_as place.is_file (slice_range text place.path_end end);
}

abbrev pub items_in : List ℕ → List Place → List Item
items_in text [] = []
items_in text (place ∷ []) = item_to text place (length text) ∷ []
items_in text (place ∷ next ∷ places) = item_to text place next.start ∷ items_in text (next ∷ places)

-- where the item of place i ends, in a text of a length
abbrev pub end_at : List Place → ℕ → ℕ → ℕ
end_at [] len i = len
end_at (place ∷ []) len i = len
end_at (place ∷ next ∷ places) len zero = next.start
end_at (place ∷ next ∷ places) len (suc i) = end_at (next ∷ places) len i

-- a place that ends at a byte lies in a text, and its path is UTF-8
pub record IsIn (text : List ℕ) (place : Place) (end : ℕ) : Type 0 where
  pub path_first : place.start ≤ place.path_end
  pub then_bytes : place.path_end ≤ end
  pub inside : end ≤ length text
  pub is_path : is_utf8 (slice_range text place.start place.path_end) ≡ true

-- places lie in a text, one after the other up to its end
abbrev pub AreIn : List ℕ → List Place → Type 0
AreIn text [] = Unit {0}
AreIn text (place ∷ []) = IsIn text place (length text)
AreIn text (place ∷ next ∷ places) = IsIn text place next.start × AreIn text (next ∷ places)

abbrev pub IsFile : Held → Type 0
IsFile Directory = ⊥
IsFile (File bytes) = Unit {0}

-- the last item is a file
abbrev pub EndsInFile : List Item → Type 0
EndsInFile [] = ⊥
EndsInFile (item ∷ []) = IsFile item.held
EndsInFile (item ∷ next ∷ items) = EndsInFile (next ∷ items)
