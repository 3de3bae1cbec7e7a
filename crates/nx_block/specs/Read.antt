-- Reading a superblock.
use Rattle.std.specs.Prelude.{ℕ, not, ◌==◌, ◌&&◌, List, length, Option, Some, None, Result, Ok, Err, if◌then◌else◌}
use Rattle.apfs_model.specs.Object.{container_kind}
use Rattle.obj_base.specs.BlockSize.{is_accepted}
use Rattle.obj_base.specs.declared.header.Header.{Header}
use Rattle.obj_base.specs.declared.header.HeadFault.{HeadFault}
use Rattle.obj_base.specs.declared.header.HeadFault.TheVariants.{BadKind}
use Rattle.obj_base.specs.declared.stop.Bad.{Bad}
use Rattle.obj_base.specs.declared.stop.Bad.TheVariants.{Found, Unsupported}
use Rattle.obj_base.specs.Sound.{sound_of, expecting, any_xid}
use Rattle.nx_block.specs.Super.{magic_of, block_size_of, nx_magic}
use Rattle.nx_block.specs.declared.fault.NxFault.{NxFault}
use Rattle.nx_block.specs.declared.fault.NxFault.TheVariants.{BadMagic, BadBlockSize, Head}

-- the block size that a first block gives
unfoldable pub size_of : List ℕ → Option ℕ
size_of bytes = if (magic_of bytes == nx_magic) && is_accepted (block_size_of bytes) then Some (block_size_of bytes) else None

-- the superblock, where its header is sound; an encrypted or a missing header is one of another kind
abbrev pub with_head : List ℕ → Result Header (Bad HeadFault) → Result (List ℕ) NxFault
with_head bytes (Ok _) = Ok bytes
with_head bytes (Err (Found fault)) = Err (Head fault)
with_head bytes (Err (Unsupported _)) = Err (Head BadKind)

-- the superblock, or the first test that fails (Container, nx_superblock_t)
unfoldable pub read_of : List ℕ → Result (List ℕ) NxFault
read_of bytes =
    if not (magic_of bytes == nx_magic) then Err BadMagic else
    if not (is_accepted (block_size_of bytes) && (block_size_of bytes == length bytes)) then Err BadBlockSize else
    with_head bytes (sound_of bytes (expecting container_kind (Some 1) any_xid))
