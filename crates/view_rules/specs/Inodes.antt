-- The rules on the targets of symbolic links, the sizes of streams, and the owners of attributes.
use Rattle.std.specs.Prelude.{ℕ, ◌-◌, ◌^◌, ◌⊎◌, Bool, false, not, ◌&&◌, ◌==◌, nat_le, List, length, slice_index, bytes_eq, codes}
use Rattle.std.specs.List.{list_any}
use Rattle.apfs_model.specs.Lists.{passes}
use Rattle.fs_name.specs.Text.{zeros}
use Rattle.fs_record.specs.Inodes.{Inode, inode_kind}
use Rattle.fs_record.specs.Attributes.{Body, Embedded, Streamed, Attribute}
use Rattle.fs_record.specs.Facts.{Fact, link_kind}
use Rattle.fs_record.specs.declared.inode_view.StreamSize.{StreamSize}
use Rattle.view_rules.specs.Words.{IsClear, IsBroken}
use Rattle.view_rules.specs.Facts.{Facts, id_of_fact, has_inode}

-- the name of the attribute that has the target of a symbolic link (Extended Attributes, SYMLINK_EA_NAME)
abbrev pub target_name : List ℕ
target_name = codes "com.apple.fs.symlink"

-- a target: two bytes or more, whose one zero is the last
abbrev pub is_target : List ℕ → Bool
is_target bytes = nat_le 2 (length bytes) && ((slice_index bytes (length bytes - 1) == 0) && (length (zeros bytes) == 1))

-- an attribute's body is a target that stands in the record itself
abbrev pub holds_target : Body → Bool
holds_target (Embedded bytes) = is_target bytes
holds_target (Streamed id size) = false

-- an attribute gives the target of a file
abbrev pub gives_target : ℕ → Fact Attribute → Bool
gives_target id a = (a.id == id) && (bytes_eq a.what.name target_name && holds_target a.what.body)

-- a symbolic link whose target no attribute gives
unfoldable pub lacks_target : Facts → Fact Inode → Bool
lacks_target facts f = (inode_kind f.what == link_kind) && not (list_any (gives_target f.id) facts.attributes)

-- each symbolic link has its target
abbrev pub HasTargets : Facts → Type 0
HasTargets facts = IsClear (lacks_target facts) facts.inodes

-- LinkTarget: a symbolic link has no embedded attribute of that name that is a target
abbrev pub IsLinkTarget : Facts → ℕ → Type 0
IsLinkTarget facts id = IsBroken (lacks_target facts) id_of_fact facts.inodes id

-- a size of 2^63 or more
abbrev pub is_too_large : ℕ → Bool
is_too_large size = nat_le (2 ^ 63) size

-- an inode has a stream of such a size
unfoldable pub has_large_stream : Fact Inode → Bool
has_large_stream f = passes f.what.stream (λ (s : StreamSize). is_too_large s.size)

-- an attribute's body is a stream of such a size
abbrev pub is_large_body : Body → Bool
is_large_body (Embedded bytes) = false
is_large_body (Streamed id size) = is_too_large size

-- an attribute has a stream of such a size
unfoldable pub has_large_body : Fact Attribute → Bool
has_large_body a = is_large_body a.what.body

-- the streams of inodes are smaller
abbrev pub HasStreamSizes : Facts → Type 0
HasStreamSizes facts = IsClear has_large_stream facts.inodes

-- the streams of attributes are smaller
abbrev pub HasBodySizes : Facts → Type 0
HasBodySizes facts = IsClear has_large_body facts.attributes

-- Stream: a stream of an inode or of its attribute has a size of 2^63 or more
abbrev pub IsStream : Facts → ℕ → Type 0
IsStream facts id = IsBroken has_large_stream id_of_fact facts.inodes id ⊎ IsBroken has_large_body id_of_fact facts.attributes id

-- an attribute of a file without an inode
unfoldable pub lacks_owner : Facts → Fact Attribute → Bool
lacks_owner facts a = not (has_inode facts a.id)

-- the file of each attribute has an inode
abbrev pub HasOwners : Facts → Type 0
HasOwners facts = IsClear (lacks_owner facts) facts.attributes

-- AttrOwner: the id of an attribute has no inode
abbrev pub IsAttrOwner : Facts → ℕ → Type 0
IsAttrOwner facts id = IsBroken (lacks_owner facts) id_of_fact facts.attributes id
