-- What is tested of siblings, fact by fact.
use Rattle.std.specs.Prelude.{◌≡◌, ◌⊎◌, ℕ, ◌+◌, ◌==◌, ◌||◌, nat_lt, Bool, true, false, is_some}
use Rattle.std.specs.List.{list_any}
use Rattle.apfs_model.specs.Lists.{In}
use Rattle.fs_record.specs.Entries.{Entry}
use Rattle.fs_record.specs.Siblings.{Link}
use Rattle.fs_record.specs.Facts.{Fact}
use Rattle.view_rules.specs.Facts.{Facts, entry_count}
use Rattle.view_rules.specs.Siblings.{is_entry_of, is_map_of, go_together, has_entry, has_map, is_link_lost, is_map_lost}
use Rattle.rule_changes.specs.Changes.{is_like, is_user_link}

-- a link that goes together with an entry has its fellows
abbrev pub LeavesLinks : Facts → Fact Entry → Type 0
LeavesLinks after e = (l : Fact Link) → In l after.links → go_together e l ≡ true → is_link_lost after l ≡ false

-- a link has one like it, or no entry
abbrev pub IsLinkLetGo : Facts → Fact Link → Type 0
IsLinkLetGo after l = (list_any (is_like l) after.links ≡ true) ⊎ (has_entry after l ≡ false)

-- a map has one like it, or no link of its file and sibling that needs it
abbrev pub IsMapLetGo : Facts → Fact ℕ → Type 0
IsMapLetGo after m = (has_map after m.what m.id ≡ true) ⊎ (list_any (is_user_link m.what m.id) after.links ≡ false)

-- the maps of a sibling of a file have their fellows
abbrev pub IsSettled : Facts → ℕ → ℕ → Type 0
IsSettled after file sibling = (m : Fact ℕ) → In m after.siblings → is_map_of file sibling m ≡ true → is_map_lost after m ≡ false

-- so have those of the sibling of an entry
abbrev pub IsEntrySettled : Facts → Fact Entry → Type 0
IsEntrySettled after e = (m : Fact ℕ) → In m after.siblings → is_entry_of m.what m.id e ≡ true → is_map_lost after m ≡ false

-- of a link and of an entry that are gone
abbrev pub IsLinkLeft : Facts → Fact Link → Type 0
IsLinkLeft after l = IsLinkLetGo after l × IsSettled after l.what.file l.what.sibling

abbrev pub IsEntryLeft : Facts → Fact Entry → Type 0
IsEntryLeft after e = LeavesLinks after e × IsEntrySettled after e

-- all entries of a file have come; or it had two of them or more before, which are those after less those that have come, and those that
-- are gone
unfoldable pub keeps_sharing : Facts → Facts → Facts → ℕ → Bool
keeps_sharing after gone come file = (entry_count after file == entry_count come file) || nat_lt (entry_count come file + 1) (entry_count after file + entry_count gone file)

-- an entry has no sibling's id, or its file isn't one that keeps its only entry
abbrev pub IsSharedStill : Facts → Facts → Facts → Fact Entry → Type 0
IsSharedStill after gone come e = (is_some e.what.sibling ≡ false) ⊎ (keeps_sharing after gone come e.what.file_id ≡ true)
