-- Which notes are of hashes, and which of entries without a name.
use Rattle.std.specs.Prelude.{Bool, true, false}
use Rattle.view_rules.specs.declared.notes.Note.{Note}
use Rattle.view_rules.specs.declared.notes.Note.TheVariants.{Skipped, Hash, Unreached, Unnamed, Count}

-- a note on a hash
abbrev pub is_hash_note : Note → Bool
is_hash_note (Skipped index xid) = false
is_hash_note (Hash at) = true
is_hash_note (Unreached slot block length) = false
is_hash_note (Unnamed at) = false
is_hash_note (Count slot block stored streams) = false

-- a note on an inode without an entry
abbrev pub is_unnamed_note : Note → Bool
is_unnamed_note (Skipped index xid) = false
is_unnamed_note (Hash at) = false
is_unnamed_note (Unreached slot block length) = false
is_unnamed_note (Unnamed at) = true
is_unnamed_note (Count slot block stored streams) = false
