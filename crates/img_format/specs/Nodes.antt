-- Roots that are leaves, as tables of fields.
use Rattle.std.specs.Prelude.{ℕ, ◌+◌, ◌-◌, ◌*◌, Bool, List, [], ◌∷◌, ◌++◌, length, if◌then◌else◌}
use Rattle.img_format.specs.Tables.{size, Field, num, object}

-- a key and its value
abbrev pub Entry : Type 0
Entry = List ℕ × List ℕ

-- an item of the table: where the key lies and where the value, and where sizes differ the length of each too
abbrev pub item : Bool → ℕ → ℕ → Entry → List ℕ
item fixed key value entry =
    if fixed then num 2 key ++ num 2 value
    else num 2 key ++ num 2 (length entry.0) ++ num 2 value ++ num 2 (length entry.1)

-- the table: keys follow one another, and values too, backwards from the end
abbrev pub table : Bool → ℕ → ℕ → List Entry → List ℕ
table fixed keys values [] = []
table fixed keys values (entry ∷ entries) =
    item fixed keys (values + length entry.1) entry ++ table fixed (keys + length entry.0) (values + length entry.1) entries

-- the keys one after another, and the values with the first one last
abbrev pub keys : List Entry → List ℕ
keys [] = []
keys (entry ∷ entries) = entry.0 ++ keys entries

abbrev pub values : List Entry → List ℕ
values [] = []
values (entry ∷ entries) = values entries ++ entry.1

-- where the values end: before what a root tells of its tree
abbrev pub values_end : ℕ
values_end = size - 40

-- the flags of a root that is a leaf, with fixed sizes or without
abbrev pub flags : Bool → ℕ
flags fixed = if fixed then 7 else 3

abbrev pub item_len : Bool → ℕ
item_len fixed = if fixed then 4 else 8

-- the fields of such a root
abbrev pub root_fields : Bool → List Entry → List Field
root_fields fixed entries =
    (32, num 2 (flags fixed)) ∷ (34, num 2 0) ∷ (36, num 4 (length entries)) ∷ (40, num 2 0) ∷ (42, num 2 (item_len fixed * length entries))
    ∷ (56, table fixed 0 0 entries ++ keys entries)
    ∷ (values_end - length (values entries), values entries)
    ∷ (values_end + 4, num 4 size) ∷ (values_end + 24, num 8 (length entries)) ∷ (values_end + 32, num 8 1)
    ∷ []

-- such a root: its id, its storage, and the kind of its tree
unfoldable pub root : ℕ → ℕ → ℕ → Bool → List Entry → List ℕ
root oid storage subtype fixed entries = object oid (storage + 2) subtype (root_fields fixed entries)
