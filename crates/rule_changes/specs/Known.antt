-- What is known of a change without a look at all of the facts: numbers, inodes, and short ways to some rules.
use Rattle.std.specs.Prelude.{◌≡◌, ◌⊎◌, ℕ, pos, ◌+◌, Bool, true, false, not, ◌&&◌, ◌||◌, ◌==◌, nat_le, List, [], map, count_by, None, Some, is_some}
use Rattle.std.specs.List.{list_any}
use Rattle.apfs_model.specs.Lists.{In, is_distinct}
use Rattle.bt_node.specs.Entries.{Pair}
use Rattle.fs_name.specs.declared.naming.Names.{Names}
use Rattle.fs_name.specs.Text.{is_ascii_name}
use Rattle.fs_name.specs.Normal.{are_hashed}
use Rattle.fs_record.specs.Inodes.{Inode, inode_kind}
use Rattle.fs_record.specs.Entries.{Entry}
use Rattle.fs_record.specs.Facts.{Fact, root_id, first_user_id, regular_kind}
use Rattle.view_rules.specs.Words.{IsClear}
use Rattle.view_rules.specs.Facts.{Facts, facts_in, inode_at, has_inode, has_directory, is_directory, names_file, entry_count, child_count}
use Rattle.view_rules.specs.Names.{is_entry_at, HasAsciiHashes, HasNameHashes, has_other_name_hash}
use Rattle.view_rules.specs.Entries.{HasParents}
use Rattle.view_rules.specs.Directories.{is_misnamed, HasDirNames}
use Rattle.view_rules.specs.Counts.{has_other_children, HasChildren, is_system_name, has_other_links}
use Rattle.rule_changes.specs.Changes.{Weaves, AreWoven, IsChange, HasDistinctInodes, IsClearWhere, is_name_of, is_renamed, stands_as_in, KeepsFellows}

-- records that are woven of others say facts that are
abbrev pub RecordsWeave : Type 0
RecordsWeave = (names : Names) (all same other : List Pair) → Weaves all same other → AreWoven (facts_in names all) (facts_in names same) (facts_in names other)

-- a file or a directory has as many entries as before, less those that are gone, and those that have come
abbrev pub CountsFollow : Type 0
CountsFollow =
    (before after gone come same : Facts) → IsChange before after gone come same → (id : ℕ)
    → (entry_count after id + entry_count gone id ≡ entry_count before id + entry_count come id)
    × (child_count after id + child_count gone id ≡ child_count before id + child_count come id)

-- the inode that an id had before: the one that is gone; if none is gone, none where one has come, and otherwise the one that it has
pub record IsInodeKnown (before after gone come : Facts) (id : ℕ) : Type 0 where
  pub lost : has_inode gone id ≡ true → inode_at before id ≡ inode_at gone id
  pub none : has_inode gone id ≡ false → has_inode come id ≡ true → inode_at before id ≡ None
  pub same : has_inode gone id ≡ false → has_inode come id ≡ false → inode_at before id ≡ inode_at after id

abbrev pub InodesKnown : Type 0
InodesKnown = (before after gone come same : Facts) → IsChange before after gone come same → (id : ℕ) → IsInodeKnown before after gone come id

-- no id has two inodes if their ids are distinct, as those of a tree in order are
abbrev pub DistinctIds : Type 0
DistinctIds = (facts : Facts) → is_distinct (map (λ (f : Fact Inode). f.id) facts.inodes) ≡ true → HasDistinctInodes facts

-- an id of the root, or of 16 or more
abbrev pub is_counted_id : ℕ → Bool
is_counted_id id = (id == root_id) || nat_le first_user_id id

-- a directory has as many entries as its inode says, and what is no directory has none
pub record AreChildrenKnown (facts : Facts) (id : ℕ) : Type 0 where
  pub given : (inode : Inode) → inode_at facts id ≡ Some inode → is_directory inode ≡ true → inode.links ≡ pos (child_count facts id)
  pub none : has_directory facts id ≡ false → child_count facts id ≡ 0

abbrev pub ChildrenKnown : Type 0
ChildrenKnown = (facts : Facts) → HasParents facts → HasChildren facts → (id : ℕ) → is_counted_id id ≡ true → AreChildrenKnown facts id

-- the number of entries that a directory's inode says is right after a change: it is the one that it said before, or none where it was
-- no directory, less the entries that are gone, and those that have come
abbrev pub ChildrenStep : Type 0
ChildrenStep =
    (before after gone come same : Facts) → IsChange before after gone come same → HasParents before → HasChildren before
    → (f : Fact Inode) (n m : ℕ) → is_counted_id f.id ≡ true
    → ((inode : Inode) × ((inode_at before f.id ≡ Some inode) × ((is_directory inode ≡ true) × (inode.links ≡ pos n)))) ⊎ ((has_directory before f.id ≡ false) × (n ≡ 0))
    → f.what.links ≡ pos m → m + child_count gone f.id ≡ n + child_count come f.id → has_other_children after f ≡ false

-- a file's number of links isn't wrong where it is that of its entries, where it has none, and where it is no regular file or
-- an entry of the private directory or of a reserved id names it
pub record IsLinksKnown (facts : Facts) (f : Fact Inode) : Type 0 where
  pub counted : f.what.links ≡ pos (entry_count facts f.id) → has_other_links facts f ≡ false
  pub unnamed : entry_count facts f.id ≡ 0 → has_other_links facts f ≡ false
  pub other : (inode_kind f.what == regular_kind) ≡ false → has_other_links facts f ≡ false
  pub freed : (e : Fact Entry) → In e facts.entries → is_system_name f.id e ≡ true → has_other_links facts f ≡ false

abbrev pub LinksKnown : Type 0
LinksKnown = (facts : Facts) (f : Fact Inode) → IsLinksKnown facts f

-- an entry has a sibling's id
abbrev pub is_marked : Fact Entry → Bool
is_marked e = is_some e.what.sibling

-- some facts have neither siblings nor entries of them
pub record HasNoSiblings (facts : Facts) : Type 0 where
  pub links : facts.links ≡ []
  pub siblings : facts.siblings ≡ []
  pub entries : IsClear is_marked facts.entries

-- siblings have their fellows after a change in which nothing of siblings is gone or has come
abbrev pub FellowsAlone : Type 0
FellowsAlone = (after gone come : Facts) → HasNoSiblings gone → HasNoSiblings come → KeepsFellows after gone come

-- a directory is well named by its only entry, where this stands in its parent
abbrev pub NamedOnce : Type 0
NamedOnce =
    (facts : Facts) (f : Fact Inode) (e : Fact Entry) → entry_count facts f.id ≡ 1
    → In e facts.entries → names_file f.id e ≡ true → e.id ≡ f.what.parent → is_misnamed facts f ≡ false

-- and if it still has its only entry, in the parent that it had
abbrev pub NamedStill : Type 0
NamedStill =
    (before after gone come same : Facts) → IsChange before after gone come same → HasDirNames before
    → (f : Fact Inode) → stands_as_in before f ≡ true → nat_le first_user_id f.id ≡ true → list_any (names_file f.id) gone.entries ≡ false
    → entry_count after f.id ≡ 1 → is_misnamed after f ≡ false

-- where names are hashed and the hashes of ASCII names are right, the entries that have the name of one have its hash, if it is ASCII
-- or the other hashes are right too
abbrev pub AlikeByHash : Type 0
AlikeByHash =
    (facts : Facts) → are_hashed facts.names ≡ true → HasAsciiHashes facts
    → (e : Fact Entry) → In e facts.entries → (is_ascii_name e.what.name ≡ true) ⊎ HasNameHashes facts
    → count_by (is_entry_at e.id e.what.name) facts.entries ≡ count_by (λ (x : Fact Entry). is_entry_at e.id e.what.name x && (x.what.hash == e.what.hash)) facts.entries

-- an inode of 16 or more, no directory, that no entry names (as in the note on such inodes)
abbrev pub is_nameless : Facts → Fact Inode → Bool
is_nameless facts f = (nat_le first_user_id f.id && not (is_directory f.what)) && not (list_any (is_name_of f.id) facts.entries)

-- a view has no such inode, and no wrong hash of a name that isn't ASCII, if the one before has none and what is tested has none
abbrev pub NoNameless : Type 0
NoNameless =
    (before after gone come same : Facts) → IsChange before after gone come same
    → IsClear (is_nameless before) before.inodes → IsClearWhere (is_renamed gone come) (is_nameless after) after.inodes → IsClear (is_nameless after) after.inodes

abbrev pub NoOddHashes : Type 0
NoOddHashes =
    (before after gone come same : Facts) → IsChange before after gone come same
    → HasNameHashes before → IsClear (has_other_name_hash after) come.entries → HasNameHashes after
