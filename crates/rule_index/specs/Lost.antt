-- Entries that lack their directory or their file.
use Rattle.std.specs.Prelude.{Bool, not, ◌&&◌, ◌==◌}
use Rattle.apfs_model.specs.Lists.{passes}
use Rattle.fs_record.specs.Inodes.{Inode, inode_kind}
use Rattle.fs_record.specs.Entries.{Entry}
use Rattle.fs_record.specs.Facts.{Fact}
use Rattle.view_rules.specs.Facts.{Facts, inode_at, has_directory, does_count}

-- an entry that counts lacks its directory, or its file with its kind
abbrev pub is_lost : Facts → Fact Entry → Bool
is_lost facts e = does_count e && not (has_directory facts e.id && passes (inode_at facts e.what.file_id) (λ (inode : Inode). inode_kind inode == e.what.kind))
