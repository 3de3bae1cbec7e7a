-- What is kept of what not each inode has: whether it is there, and its value.
use Rattle.std.specs.Prelude.{Bool, Option, None, Some, if◌then◌else◌}
use Rattle.fs_record.specs.declared.inode_view.StreamSize.{StreamSize}

-- the sizes of a stream, where there is one
abbrev pub stream_of : Bool → StreamSize → Option StreamSize
stream_of has size = if has then Some size else None
