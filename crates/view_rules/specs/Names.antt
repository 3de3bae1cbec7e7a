-- The rules on names: each is there once in its directory or among the attributes of its file, and its hash is right.
use Rattle.std.specs.Prelude.{ℕ, ◌⊎◌, Bool, not, ◌&&◌, ◌==◌, nat_lt, List, count_by, bytes_eq}
use Rattle.fs_name.specs.Text.{is_ascii_name}
use Rattle.fs_name.specs.Normal.{are_hashed}
use Rattle.fs_name.specs.Hash.{name_hash_of}
use Rattle.fs_record.specs.Entries.{Entry}
use Rattle.fs_record.specs.Attributes.{Attribute}
use Rattle.fs_record.specs.Facts.{Fact}
use Rattle.view_rules.specs.Words.{IsClear, IsBroken}
use Rattle.view_rules.specs.Facts.{Facts}

-- where an entry stands: the id of its directory, and its name
abbrev pub entry_place : Fact Entry → ℕ × List ℕ
entry_place e = (e.id, e.what.name)

-- where an attribute stands: the id of its file, and its name
abbrev pub attribute_place : Fact Attribute → ℕ × List ℕ
attribute_place a = (a.id, a.what.name)

-- an entry of a directory has a name, byte by byte
abbrev pub is_entry_at : ℕ → List ℕ → Fact Entry → Bool
is_entry_at id name e = (e.id == id) && bytes_eq e.what.name name

-- an attribute of a file has a name, byte by byte
abbrev pub is_attribute_at : ℕ → List ℕ → Fact Attribute → Bool
is_attribute_at id name a = (a.id == id) && bytes_eq a.what.name name

-- an entry's name is there again in its directory
unfoldable pub is_entry_repeated : Facts → Fact Entry → Bool
is_entry_repeated facts e = nat_lt 1 (count_by (is_entry_at e.id e.what.name) facts.entries)

-- an attribute's name is there again among those of its file
unfoldable pub is_attribute_repeated : Facts → Fact Attribute → Bool
is_attribute_repeated facts a = nat_lt 1 (count_by (is_attribute_at a.id a.what.name) facts.attributes)

-- no name is twice in a directory
abbrev pub HasDistinctEntries : Facts → Type 0
HasDistinctEntries facts = IsClear (is_entry_repeated facts) facts.entries

-- no name is twice among the attributes of a file
abbrev pub HasDistinctAttributes : Facts → Type 0
HasDistinctAttributes facts = IsClear (is_attribute_repeated facts) facts.attributes

-- DupName: two entries of a directory, or two attributes of a file, have this name, byte by byte
abbrev pub IsDupName : Facts → ℕ → List ℕ → Type 0
IsDupName facts id name =
    IsBroken (is_entry_repeated facts) entry_place facts.entries (id, name)
    ⊎ IsBroken (is_attribute_repeated facts) attribute_place facts.attributes (id, name)

-- an entry's key has another hash than its name; where names aren't hashed it has none
unfoldable pub has_other_hash : Facts → Fact Entry → Bool
has_other_hash facts e = are_hashed facts.names && not (e.what.hash == name_hash_of facts.names e.what.name)

-- such an entry whose name is ASCII
unfoldable pub has_other_ascii_hash : Facts → Fact Entry → Bool
has_other_ascii_hash facts e = is_ascii_name e.what.name && has_other_hash facts e

-- the hashes of ASCII names are right
abbrev pub HasAsciiHashes : Facts → Type 0
HasAsciiHashes facts = IsClear (has_other_ascii_hash facts) facts.entries

-- Hash: an entry's name is ASCII, and its key has another hash
abbrev pub IsHash : Facts → ℕ → List ℕ → Type 0
IsHash facts id name = IsBroken (has_other_ascii_hash facts) entry_place facts.entries (id, name)

-- such an entry whose name isn't ASCII
unfoldable pub has_other_name_hash : Facts → Fact Entry → Bool
has_other_name_hash facts e = not (is_ascii_name e.what.name) && has_other_hash facts e

-- the hashes of names that aren't ASCII are right
abbrev pub HasNameHashes : Facts → Type 0
HasNameHashes facts = IsClear (has_other_name_hash facts) facts.entries

-- NameHash: an entry's name isn't ASCII, and its key has another hash
abbrev pub IsNameHash : Facts → ℕ → List ℕ → Type 0
IsNameHash facts id name = IsBroken (has_other_name_hash facts) entry_place facts.entries (id, name)
