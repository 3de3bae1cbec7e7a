-- The rules on the numbers of a directory's children and of a file's links.
use Rattle.std.specs.Prelude.{ℕ, pos, Bool, not, ◌&&◌, ◌||◌, ◌==◌, nat_lt, nat_le}
use Rattle.std.specs.List.{list_any}
use Rattle.std.specs.Ordering.{int_eq}
use Rattle.fs_record.specs.Inodes.{Inode, inode_kind}
use Rattle.fs_record.specs.Entries.{Entry}
use Rattle.fs_record.specs.Facts.{Fact, root_id, first_user_id, regular_kind}
use Rattle.view_rules.specs.Words.{IsClear, IsBroken}
use Rattle.view_rules.specs.Facts.{Facts, id_of_fact, is_directory, is_system_id, entry_count, child_count}

-- a directory whose children are counted: the root, or one of 16 or more
abbrev pub is_counted_directory : Fact Inode → Bool
is_counted_directory f = is_directory f.what && ((f.id == root_id) || nat_le first_user_id f.id)

-- such a directory that gives another number of children than it has entries
unfoldable pub has_other_children : Facts → Fact Inode → Bool
has_other_children facts f = is_counted_directory f && not (int_eq f.what.links (pos (child_count facts f.id)))

-- the numbers of children are right
abbrev pub HasChildren : Facts → Type 0
HasChildren facts = IsClear (has_other_children facts) facts.inodes

-- Children: the root, or a directory of 16 or more, has another number of entries
abbrev pub IsChildren : Facts → ℕ → Type 0
IsChildren facts id = IsBroken (has_other_children facts) id_of_fact facts.inodes id

-- an entry of the private directory or of a reserved id names a file
abbrev pub is_system_name : ℕ → Fact Entry → Bool
is_system_name id e = is_system_id e.id && (e.what.file_id == id)

-- a regular file has an entry, and none in the private directory or of a reserved id
abbrev pub is_linked_file : Facts → Fact Inode → Bool
is_linked_file facts f =
    (inode_kind f.what == regular_kind)
    && (nat_lt 0 (entry_count facts f.id) && not (list_any (is_system_name f.id) facts.entries))

-- such a file that gives another number of links than it has entries
unfoldable pub has_other_links : Facts → Fact Inode → Bool
has_other_links facts f = is_linked_file facts f && not (int_eq f.what.links (pos (entry_count facts f.id)))

-- the numbers of links are right
abbrev pub HasLinks : Facts → Type 0
HasLinks facts = IsClear (has_other_links facts) facts.inodes

-- Links: a regular file with an entry, none of them in 3 or of a reserved id, has another number of entries
abbrev pub IsLinks : Facts → ℕ → Type 0
IsLinks facts id = IsBroken (has_other_links facts) id_of_fact facts.inodes id
