-- What is looked up by an id.
use Rattle.std.specs.Prelude.{ℕ, Bool, ◌==◌}
use Rattle.std.specs.List.{find}
use Rattle.apfs_model.specs.Lists.{passes}
use Rattle.fs_record.specs.Inodes.{Inode}
use Rattle.fs_record.specs.Siblings.{Link}
use Rattle.fs_record.specs.Facts.{Fact}
use Rattle.view_rules.specs.Facts.{Facts}
use Rattle.rule_changes.specs.Changes.{is_of}

-- the inode of an id breaks a rule
abbrev pub breaks_at : (Fact Inode → Bool) → Facts → ℕ → Bool
breaks_at breaks facts id = passes (find (is_of id) facts.inodes) breaks

-- a link is of a file
abbrev pub is_file_link : ℕ → Fact Link → Bool
is_file_link file l = l.what.file == file
