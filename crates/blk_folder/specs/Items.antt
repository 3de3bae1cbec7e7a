-- What a folder has: directories and files, each by its path, in the order in which they were put.
use Rattle.std.specs.Prelude.{◌≡◌, ◌⊎◌, ℕ, ◌++◌, List, [], ◌∷◌, length}

-- what stands at a path: a directory, or a file with its bytes
pub data Held : Type 0 where
  Directory : Held
  File : List ℕ → Held

-- an item of a folder
pub record Item : Type 0 where
  pub path : List ℕ
  pub held : Held

abbrev pub directory_at : List ℕ → Item
directory_at path = record { path = path; held = Directory }

abbrev pub file_at : List ℕ → List ℕ → Item
file_at path bytes = record { path = path; held = File bytes }

-- bytes more at the end of a file; a directory stays what it is
abbrev pub held_more : List ℕ → Held → Held
held_more piece Directory = Directory
held_more piece (File bytes) = File (bytes ++ piece)

-- bytes more at the end of the last item
abbrev pub with_more : List ℕ → List Item → List Item
with_more piece [] = []
with_more piece (item ∷ []) = record { path = item.path; held = held_more piece item.held } ∷ []
with_more piece (item ∷ next ∷ items) = item ∷ with_more piece (next ∷ items)

-- a front of a file's bytes
pub record IsBegun (path front : List ℕ) (rest : List Item) : Type 0 where
  pub bytes : List ℕ
  pub later : List Item
  pub first : rest ≡ file_at path bytes ∷ later
  pub left : List ℕ
  pub split : bytes ≡ front ++ left

-- nothing more than whole items was put, or the next one, a file, with a front of its bytes
abbrev pub EndsWith : List Item → List Item → List Item → Type 0
EndsWith whole rest front = (front ≡ whole) ⊎ ((path : List ℕ) × (bytes : List ℕ) × IsBegun path bytes rest × (front ≡ whole ++ file_at path bytes ∷ []))

-- a front of some items, of whose last, a file, a front of the bytes may be there
pub record IsFront (front items : List Item) : Type 0 where
  pub whole : List Item
  pub rest : List Item
  pub split : items ≡ whole ++ rest
  pub end : EndsWith whole rest front

-- how many bytes a file has; a directory has none
abbrev pub byte_count : Held → ℕ
byte_count Directory = 0
byte_count (File bytes) = length bytes
