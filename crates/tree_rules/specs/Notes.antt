-- The notes of a view: what is odd in it, and no fault.
use Rattle.std.specs.Prelude.{Bool, not, ◌&&◌, ◌==◌, nat_le, List, map, filter}
use Rattle.std.specs.List.{list_any}
use Rattle.fs_record.specs.Inodes.{Inode}
use Rattle.fs_record.specs.Entries.{Entry}
use Rattle.fs_record.specs.Facts.{Fact, first_user_id}
use Rattle.vol_view.specs.declared.volume.View.{View}
use Rattle.view_rules.specs.Facts.{Facts, is_directory}
use Rattle.view_rules.specs.Names.{has_other_name_hash}
use Rattle.view_rules.specs.declared.notes.Note.{Note}
use Rattle.view_rules.specs.declared.notes.Note.TheVariants.{Hash, Unnamed}

-- the note of an entry whose name isn't ASCII and whose key has another hash
abbrev pub hash_note : View → Fact Entry → Note
hash_note view e = Hash (record { slot = view.slot; xid = view.xid; id = e.id; name = e.what.name })

-- note hash: one for each such entry
abbrev pub hash_notes : View → Facts → List Note
hash_notes view facts = map (hash_note view) (filter (has_other_name_hash facts) facts.entries)

-- an inode of 16 or more, no directory, without an entry; one of a reserved id is an entry too
unfoldable pub is_unnamed : Facts → Fact Inode → Bool
is_unnamed facts f =
    (nat_le first_user_id f.id && not (is_directory f.what))
    && not (list_any (λ (e : Fact Entry). e.what.file_id == f.id) facts.entries)

-- the note of such an inode
abbrev pub unnamed_note : View → Fact Inode → Note
unnamed_note view f = Unnamed (record { slot = view.slot; xid = view.xid; id = f.id })

-- note unnamed: one for each such inode
abbrev pub unnamed_notes : View → Facts → List Note
unnamed_notes view facts = map (unnamed_note view) (filter (is_unnamed facts) facts.inodes)
