-- The contents of files and of attributes (Data Streams).
use Rattle.std.specs.Prelude.{ℕ, not, ◌==◌, List, [], Option, None, Some, Result, Ok, Err, if◌then◌else◌}
use Rattle.apfs_model.specs.Bytes.{has_flag}
use Rattle.apfs_model.specs.Lists.{and_then}
use Rattle.fs_record.specs.Inodes.{Inode, inode_kind}
use Rattle.fs_record.specs.Attributes.{Body}
use Rattle.fs_record.specs.Attributes.Body.{Embedded, Streamed}
use Rattle.fs_record.specs.Facts.{all_for, regular_kind}
use Rattle.fs_record.specs.declared.inode_view.StreamSize.{StreamSize}
use Rattle.file_extent.specs.Streams.{stream_bytes}
use Rattle.view_rules.specs.Facts.{Facts}
use Rattle.path_search.specs.Places.{Place}
use Rattle.path_search.specs.Found.{found}
use Rattle.path_search.specs.declared.answer.Answer.{Answer}
use Rattle.path_search.specs.declared.answer.Answer.TheVariants.{NotFile, Compressed, Dataless}

-- the flag of a file whose contents are compressed (BSD flags, UF_COMPRESSED)
abbrev pub compressed_flag : ℕ
compressed_flag = 0x20

-- the flag of a file whose contents aren't there (BSD flags, SF_DATALESS)
abbrev pub dataless_flag : ℕ
dataless_flag = 0x40000000

-- the stream of an id and a size, in an image with blocks of a size
abbrev pub stream_in : ℕ → List ℕ → Facts → ℕ → ℕ → List ℕ
stream_in block_size image facts id size = stream_bytes block_size image (all_for id facts.extents) size

-- the stream of an inode, by its private id; no bytes without one
abbrev pub contents_by : ℕ → List ℕ → Facts → ℕ → Option StreamSize → List ℕ
contents_by block_size image facts id None = []
contents_by block_size image facts id (Some stream) = stream_in block_size image facts id stream.size

-- the contents of an inode
abbrev pub contents_in : ℕ → List ℕ → Facts → Inode → List ℕ
contents_in block_size image facts inode = contents_by block_size image facts inode.private_id inode.stream

-- what an attribute holds: its embedded contents, or its stream
abbrev pub body_in : ℕ → List ℕ → Facts → Body → List ℕ
body_in block_size image facts (Embedded bytes) = bytes
body_in block_size image facts (Streamed id size) = stream_in block_size image facts id size

-- the inode of a file whose contents can be given: NotFile where it is no regular file, then Compressed, then Dataless
unfoldable pub readable : Inode → Result Inode Answer
readable inode =
    if not (inode_kind inode == regular_kind) then Err NotFile else
    if has_flag inode.bsd_flags compressed_flag then Err Compressed else
    if has_flag inode.bsd_flags dataless_flag then Err Dataless else
    Ok inode

-- the contents of a place, or the answer
abbrev pub contents_at : ℕ → List ℕ → Facts → Place → Result (List ℕ) Answer
contents_at block_size image facts place = and_then (readable place.inode) (λ (inode : Inode). Ok (contents_in block_size image facts inode))

-- the contents of the file that a path leads to, or the answer
abbrev pub contents : ℕ → List ℕ → Facts → List ℕ → Result (List ℕ) Answer
contents block_size image facts path = and_then (found facts path) (λ (place : Place). contents_at block_size image facts place)
