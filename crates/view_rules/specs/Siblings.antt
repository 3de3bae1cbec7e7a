-- The rules on siblings: the entries of a file with several names, its sibling links and its sibling maps go together.
use Rattle.std.specs.Prelude.{ℕ, ◌⊎◌, Bool, not, ◌&&◌, ◌||◌, ◌==◌, nat_lt, Option, Some, is_some, is_none, bytes_eq}
use Rattle.std.specs.List.{list_any}
use Rattle.apfs_model.specs.Lists.{passes}
use Rattle.fs_record.specs.Entries.{Entry}
use Rattle.fs_record.specs.Siblings.{Link}
use Rattle.fs_record.specs.Facts.{Fact, private_id}
use Rattle.view_rules.specs.Words.{IsClear, IsBroken}
use Rattle.view_rules.specs.Facts.{Facts, id_of_fact, is_system_id, does_count, entry_count}

-- an entry has a sibling's id
abbrev pub has_sibling : ℕ → Fact Entry → Bool
has_sibling sibling e = passes e.what.sibling (λ s. s == sibling)

-- an entry is of a sibling of a file
abbrev pub is_entry_of : ℕ → ℕ → Fact Entry → Bool
is_entry_of file sibling e = (e.what.file_id == file) && has_sibling sibling e

-- a link is of a sibling of a file
abbrev pub is_link_of : ℕ → ℕ → Fact Link → Bool
is_link_of file sibling l = (l.what.file == file) && (l.what.sibling == sibling)

-- a map leads from a sibling to a file
abbrev pub is_map_of : ℕ → ℕ → Fact ℕ → Bool
is_map_of file sibling m = (m.what == file) && (m.id == sibling)

-- an entry and a link go together: they are of one sibling of one file, and of one name in one directory
abbrev pub go_together : Fact Entry → Fact Link → Bool
go_together e l = is_entry_of l.what.file l.what.sibling e && ((e.id == l.what.parent) && bytes_eq e.what.name l.what.name)

-- an entry has its link
abbrev pub has_link : Facts → Fact Entry → Bool
has_link facts e = list_any (go_together e) facts.links

-- a link has its entry
abbrev pub has_entry : Facts → Fact Link → Bool
has_entry facts l = list_any (λ (e : Fact Entry). go_together e l) facts.entries

-- a sibling of a file has its map
abbrev pub has_map : Facts → ℕ → ℕ → Bool
has_map facts file sibling = list_any (is_map_of file sibling) facts.siblings

-- an entry needs its fellows: it has a sibling's id, and it is none of the private directory or of a reserved id
abbrev pub is_twin : Fact Entry → Bool
is_twin e = is_some e.what.sibling && not (is_system_id e.id)

-- an entry lacks its link or its map
unfoldable pub is_entry_lost : Facts → Fact Entry → Bool
is_entry_lost facts e = is_twin e && not (has_link facts e && passes e.what.sibling (has_map facts e.what.file_id))

-- a link lacks its entry or its map; one whose parent is the private directory or reserved needs neither
unfoldable pub is_link_lost : Facts → Fact Link → Bool
is_link_lost facts l = not (is_system_id l.what.parent) && not (has_entry facts l && has_map facts l.what.file l.what.sibling)

-- an entry of a sibling of a file needs its fellows, and has its link
abbrev pub is_linked_entry : Facts → ℕ → ℕ → Fact Entry → Bool
is_linked_entry facts file sibling e = is_entry_of file sibling e && (is_twin e && has_link facts e)

-- an entry of a sibling of a file stands in the private directory
abbrev pub is_private_entry : ℕ → ℕ → Fact Entry → Bool
is_private_entry file sibling e = is_entry_of file sibling e && (e.id == private_id)

-- a link of a sibling of a file has the private directory or a reserved id as its parent
abbrev pub is_system_link : ℕ → ℕ → Fact Link → Bool
is_system_link file sibling l = is_link_of file sibling l && is_system_id l.what.parent

-- a sibling of a file has an entry and a link that go together, or one of those that need no fellow
abbrev pub has_fellows : Facts → ℕ → ℕ → Bool
has_fellows facts file sibling =
    list_any (is_linked_entry facts file sibling) facts.entries
    || (list_any (is_private_entry file sibling) facts.entries || list_any (is_system_link file sibling) facts.links)

-- a map lacks its entry or its link
unfoldable pub is_map_lost : Facts → Fact ℕ → Bool
is_map_lost facts m = not (has_fellows facts m.what m.id)

-- an entry without a sibling's id, of a file that has two entries or more
unfoldable pub is_unmarked : Facts → Fact Entry → Bool
is_unmarked facts e = does_count e && (is_none e.what.sibling && nat_lt 1 (entry_count facts e.what.file_id))

-- each entry of a sibling has its link and its map
abbrev pub HasEntryFellows : Facts → Type 0
HasEntryFellows facts = IsClear (is_entry_lost facts) facts.entries

-- each link has its entry and its map
abbrev pub HasLinkFellows : Facts → Type 0
HasLinkFellows facts = IsClear (is_link_lost facts) facts.links

-- each map has its entry and its link
abbrev pub HasMapFellows : Facts → Type 0
HasMapFellows facts = IsClear (is_map_lost facts) facts.siblings

-- each entry of a file with several has a sibling's id
abbrev pub HasMarks : Facts → Type 0
HasMarks facts = IsClear (is_unmarked facts) facts.entries

-- the sibling whose fellow an entry lacks, if any
abbrev pub sibling_place : Fact Entry → Option ℕ
sibling_place e = e.what.sibling

-- the sibling whose fellow a link lacks
abbrev pub link_place : Fact Link → ℕ
link_place l = l.what.sibling

-- the file that an entry names
abbrev pub file_place : Fact Entry → ℕ
file_place e = e.what.file_id

-- SiblingLost: an entry, a link or a map of this sibling lacks its fellow; or this file has two entries, and one of them no
-- sibling's id
abbrev pub IsSiblingLost : Facts → ℕ → Type 0
IsSiblingLost facts id =
    IsBroken (is_entry_lost facts) sibling_place facts.entries (Some id)
    ⊎ (IsBroken (is_link_lost facts) link_place facts.links id
    ⊎ (IsBroken (is_map_lost facts) id_of_fact facts.siblings id
    ⊎ IsBroken (is_unmarked facts) file_place facts.entries id))
